-- The image's rows as the words of the judge's arrays: two numbers in a word are their bytes, one after the other. Assumes nothing.
use Prim.Native.Nat.{ℕ, ◌+◌, ◌^◌, ◌≤◌, ◌<◌}
use mathlib.Core.Path.{◌≡◌, refl, ap, ◌∙◌}
use mathlib.Core.List.{List, ◌++◌, append_assoc}
use native.Mathlib.Omega.{arith}
use lib.ListN.{get_or}
use Rattle.endian.specs.Endian.{le_bytes}
use Rattle.endian.proofs.Laws.{le_bytes-joined}
use Rattle.store.specs.Limits.{max_commits}
use Rattle.store.specs.Store.{CommitNumber, Version, Store, count, version}
use Rattle.store.specs.Image.{version_bytes, commit_bytes, ClientsFit}
use Rattle.store.specs.Masks.{view_bytes}
use Rattle.store.specs.Sound.{SoundStore}
use Rattle.state.specs.Places.{packed, head_place, readers_place, view_place, stored_row}
use Rattle.state.specs.Keeps.{KeepsVersions, KeepsCommits, KeepsStored}
use Rattle.state.specs.Rows.{RowAt}

-- a byte and three zeros
pub le_bytes-byte : (v : ℕ) → v < 256 → le_bytes 4 v ≡ le_bytes 1 v ++ le_bytes 3 0
le_bytes-byte v fits = le_bytes-joined 1 3 v 0 v fits (omega arith)

le_bytes-packed : (low high : ℕ) → low < 2 ^ 32 → le_bytes 8 (packed low high) ≡ le_bytes 4 low ++ le_bytes 4 high
le_bytes-packed low high fits = le_bytes-joined 4 4 low high (packed low high) fits (omega arith)

-- the head of a version: "value u32, writer u8, three zeros"
pub le_bytes-head : (value writer : ℕ) → value < 2 ^ 32 → writer < 256 → le_bytes 8 (packed value writer) ≡ le_bytes 4 value ++ (le_bytes 1 writer ++ le_bytes 3 0)
le_bytes-head value writer fits small = le_bytes-packed value writer fits ∙ ap (λ l. le_bytes 4 value ++ l) (le_bytes-byte writer small)

-- a version is two words: its head, and its readers
pub version-words : (v : Version) → v.value < 2 ^ 32 → v.writer < 256 → le_bytes 8 (packed v.value v.writer) ++ le_bytes 8 v.readers ≡ version_bytes v
unfolding version_bytes
version-words v fits small = rw (le_bytes-head v.value v.writer fits small) (simp append_assoc)

-- a commit is one word, "client u8, three zeros, session number u32", and its masks
pub commit-word : (s : Store) (t : CommitNumber) → s.client_of t < 256
    → le_bytes 8 (packed (s.client_of t) (s.session_of t)) ++ view_bytes s.keys (s.view_of t) ≡ commit_bytes s t
unfolding commit_bytes
commit-word s t small =
    rw (le_bytes-packed (s.client_of t) (s.session_of t) (omega arith), le_bytes-byte (s.client_of t) small) (simp append_assoc)

-- ---- in the arrays

-- the writers of a store with no more commits than the limit have room in a byte
writer-small : (s : Store) (k i : ℕ) → SoundStore s → s.commits ≤ max_commits → i < count s k → (version s k i).writer < 256
writer-small s k i sound few l = omega (arith, sound.writers (version s k i).writer k i (l, refl))

pub version-kept : (s : Store) (versions : List ℕ) (k i : ℕ) → KeepsVersions s versions → SoundStore s → s.commits ≤ max_commits → i < count s k
    → le_bytes 8 (get_or versions (head_place k i) 0) ++ le_bytes 8 (get_or versions (readers_place k i) 0) ≡ version_bytes (version s k i)
version-kept s versions k i kept sound few l =
    rw (kept.heads k i l, kept.readers k i l) (version-words (version s k i) (kept.value-fits k i l) (writer-small s k i sound few l))

pub commit-kept : (s : Store) (commits : List ℕ) (t : CommitNumber) → KeepsCommits s commits → ClientsFit s → 0 < t → t ≤ s.commits
    → le_bytes 8 (get_or commits t 0) ++ view_bytes s.keys (s.view_of t) ≡ commit_bytes s t
commit-kept s commits t kept fit p l = rw (kept.log t p l) (commit-word s t (fit t p l))

-- the row of a commit, as the code adds up its place
pub stored_row-at : (s : Store) (views : List ℕ) (t : CommitNumber) (base : ℕ) → KeepsStored s views → 0 < t → t ≤ s.commits → base ≡ view_place (stored_row t) 0
    → RowAt s.keys views base (s.view_of t)
stored_row-at s views t base kept p l e k b =
    let place : base + k ≡ view_place (stored_row t) k = omega arith in
    ap (λ (i : ℕ). get_or views i 0) place ∙ kept t p l k b
