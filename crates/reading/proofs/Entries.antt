-- The places of the entries of an image, one behind the other, and a pass over them. Assumes nothing.
use Prim.Native.Nat.{ℕ, zero, suc, ◌+◌, ◌-◌, ◌*◌, ◌≤◌, ◌<◌}
use mathlib.Core.Path.{◌≡◌, ap}
use native.Mathlib.Omega.{arith}
use native.Mathlib.Nat.{mul-suc}
use mathlib.Core.Logic.{◌↔◌}
use mathlib.Core.List.{List}
use native.Mathlib.Decide.{ℕ_discrete}
use Rattle.endian.specs.Endian.{le_at}
use Rattle.endian.proofs.Laws.{le_at-add}
use Rattle.store.specs.Limits.{max_clients}
use Rattle.reading.specs.Parts.{entry_place, NewEntry, EntryFits}

pub entry_next : (step t : ℕ) → 0 < t → entry_place step t + step ≡ entry_place step (t + 1)
entry_next step zero h = absurd (omega arith)
entry_next step (suc t) h =
    let e : suc t + 1 - 1 ≡ suc t = omega arith in
    let q : entry_place step (suc t + 1) ≡ 8 + step * suc t = ap (λ (x : ℕ). 8 + step * x) e in
    let p : suc t - 1 ≡ t = omega arith in
    let r : entry_place step (suc t) ≡ 8 + step * t = ap (λ (x : ℕ). 8 + step * x) p in
    omega (arith, q, r, mul-suc step t)

-- ---- a pass over the entries before one

-- the entry at a place has the client and the number
abbrev pub Bears : List ℕ → ℕ → ℕ → ℕ → Type 0
Bears b place client session = (le_at b place 1 ≡ client) × (le_at b (place + 4) 4 ≡ session)

-- none of those before entry a has
abbrev pub NoneBears : List ℕ → ℕ → ℕ → ℕ → ℕ → Type 0
NoneBears b step a client session = (j : ℕ) → 0 < j → j < a → ¬ Bears b (entry_place step j) client session

-- ---- an entry

-- a byte with three zeros behind it is a small number of four bytes
pub byte-and-zeros : (b : List ℕ) (at limit : ℕ) → limit ≤ 256 → (le_at b at 4 < limit) ↔ ((le_at b at 1 < limit) × (le_at b (at + 1) 3 ≡ 0))
byte-and-zeros b at limit h =
    let e : le_at b at 4 ≡ le_at b at 1 + 256 * le_at b (at + 1) 3 = le_at-add b 1 3 at in
    (λ l. (omega arith, omega arith), λ (l, z). omega arith)

pub byte-alone : (b : List ℕ) (at : ℕ) → le_at b (at + 1) 3 ≡ 0 → le_at b at 4 ≡ le_at b at 1
byte-alone b at z = let e : le_at b at 4 ≡ le_at b at 1 + 256 * le_at b (at + 1) 3 = le_at-add b 1 3 at in omega arith

module _ (b : List ℕ) (step t : ℕ) {at : ℕ} (e : at ≡ entry_place step t) where
  pub entry-fits : le_at b at 4 < max_clients → NewEntry b step t → EntryFits b step t
  entry-fits l h = let x = (byte-and-zeros b (entry_place step t) max_clients (omega arith)).0 (rw e at l) in record { client = x.0; spare = x.1; new = h }

  pub entry-small : EntryFits b step t → le_at b at 4 < max_clients
  entry-small f = rw e ((byte-and-zeros b (entry_place step t) max_clients (omega arith)).1 (f.client, f.spare))

-- the entries before one fit
abbrev pub EntriesFit : List ℕ → ℕ → ℕ → Type 0
EntriesFit b step t = (j : ℕ) → 0 < j → j < t → EntryFits b step j

pub entries-more : (b : List ℕ) (step t : ℕ) → EntryFits b step t → EntriesFit b step t → EntriesFit b step (t + 1)
entries-more b step t here before j h l = go (ℕ_discrete j t)
  where
    go : Dec (j ≡ t) → EntryFits b step j
    go (yes q) = rw q here
    go (no q) = before j h (omega arith)
