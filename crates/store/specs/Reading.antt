-- What an image says: the store that its bytes describe, each part read where the image has it (specs/Image.antt). Any bytes say some store, a byte past
-- the end counting as 0; whether they are an image at all is not asked here. Assumes nothing.
use Rattle.std.specs.Prelude.{ℕ, zero, suc, ◌+◌, ◌-◌, ◌*◌, ◌^◌, ◌≤◌, ◌<◌, ◌≡◌, Bool, ◌&&◌, List, [], ◌∷◌, ltb, leb}
use Rattle.search.specs.Choose.{choose}
use Rattle.endian.specs.Endian.{le_at}
use Rattle.store.specs.Limits.{max_keys, max_clients, max_commits}
use Rattle.store.specs.Store.{Key, CommitNumber, Version, no_view, Store, count, version}
use Rattle.store.specs.View.{FitsView}
use Rattle.store.specs.Masks.{view_at}

-- "u32 length, keys u8, commits u8, two zeros"
abbrev pub image_keys : List ℕ → ℕ
image_keys b = le_at b 4 1

abbrev pub image_commits : List ℕ → ℕ
image_commits b = le_at b 5 1

-- ---- the commits

-- "Per commit 8 bytes", and "K masks by rising key follow"
abbrev pub commit_size : ℕ → ℕ
commit_size keys = 8 + 8 * keys

-- commit 1 stands behind the first 8 bytes, and the others behind it in order
abbrev pub commit_place : List ℕ → CommitNumber → ℕ
commit_place b t = 8 + commit_size (image_keys b) * (t - 1)

-- t is the number of one of them
abbrev pub is_commit : List ℕ → CommitNumber → Bool
is_commit b t = ltb 0 t && leb t (image_commits b)

-- ---- the keys

-- key 0 stands behind the commits; "Per key: u32 number of versions, then 16 bytes each"
unfoldable pub key_place : List ℕ → Key → ℕ
key_place b zero = 8 + commit_size (image_keys b) * image_commits b
key_place b (suc k) = key_place b k + (4 + 16 * le_at b (key_place b k) 4)

-- "value u32, writer u8, three zeros, readers u64 with bit c for commit c"
abbrev pub version_at : List ℕ → ℕ → Version
version_at b at = record { value = le_at b at 4; writer = le_at b (at + 4) 1; readers = le_at b (at + 8) 8 }

-- so many versions, from a place on
unfoldable pub versions_at : List ℕ → ℕ → ℕ → List Version
versions_at b at zero = []
versions_at b at (suc n) = version_at b at ∷ versions_at b (at + 16) n

-- those of the key that stands at a place
abbrev pub key_at : List ℕ → ℕ → List Version
key_at b at = versions_at b (at + 4) (le_at b at 4)

-- ---- the store

-- a number that is no commit's has client and session number 0 and no view, and a key that the store does not have has no versions
unfoldable pub store_of : List ℕ → Store
store_of b = record {
  keys = image_keys b;
  versions = λ k. choose (ltb k (image_keys b)) (key_at b (key_place b k)) [];
  client_of = λ t. choose (is_commit b t) (le_at b (commit_place b t) 1) 0;
  session_of = λ t. choose (is_commit b t) (le_at b (commit_place b t + 4) 4) 0;
  view_of = λ t. choose (is_commit b t) (view_at b (commit_place b t + 8) (image_keys b)) no_view;
  commits = image_commits b;
}

-- ---- which stores their images say

-- each number of a version fits into its bytes
pub record FitsVersion (v : Version) : Type 0 where
  pub value : v.value < 2 ^ 32
  pub writer : v.writer < 256
  pub readers : v.readers < 2 ^ 64

-- what an image has room for: each number fits into its bytes, and nothing stands where the image has no place for it. `store_of (image s) ≡ s` of every
-- such store (crates/store/proofs/Reading.antt), and every store that a taken trace makes is one (crates/answer/proofs/Recorded.antt).
pub record FitsImage (s : Store) : Type 0 where
  pub few-keys : s.keys ≤ max_keys
  pub few-commits : s.commits ≤ max_commits
  pub client : (t : CommitNumber) → s.client_of t < max_clients
  pub session : (t : CommitNumber) → s.session_of t < 2 ^ 32
  pub view : (t : CommitNumber) → FitsView s.keys (s.view_of t)
  -- the numbers of commits are 1 to the number of commits
  pub no-client : (t : CommitNumber) → (0 < t → s.commits < t) → s.client_of t ≡ 0
  pub no-session : (t : CommitNumber) → (0 < t → s.commits < t) → s.session_of t ≡ 0
  pub no-view : (t : CommitNumber) → (0 < t → s.commits < t) → s.view_of t ≡ no_view
  pub few-versions : (k : Key) → count s k < 2 ^ 32
  pub only-keys : (k i : ℕ) → i < count s k → k < s.keys
  pub version-fits : (k i : ℕ) → i < count s k → FitsVersion (version s k i)
