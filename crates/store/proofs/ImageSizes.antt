-- How long the image of a store and its parts are, and can be. Assumes nothing.
use Prim.Native.Nat.{ℕ, zero, suc, ◌+◌, ◌*◌, ◌≤◌}
use mathlib.Core.Path.{◌≡◌}
use native.Mathlib.Omega.{arith}
use native.Mathlib.Nat.{mul-le-mul}
use lib.ListN.{length, length-append}
use Rattle.endian.specs.Endian.{pieces}
use Rattle.endian.proofs.Laws.{length-le_bytes, length-pieces}
use Rattle.store.specs.Limits.{max_keys, max_commits, per_key, max_image}
use Rattle.store.specs.Store.{Key, CommitNumber, Version, Store, count, version}
use Rattle.store.specs.Image.{version_bytes, commit_bytes, key_bytes, image_body, image}
use Rattle.store.specs.Reading.{commit_size}
use Rattle.store.specs.Sound.{SoundStore}
use Rattle.store.proofs.Masks.{length-view_bytes}

pub length-version : (v : Version) → length (version_bytes v) ≡ 16
unfolding version_bytes
length-version v = simp (length-append, length-le_bytes)

pub length-commit : (s : Store) (t : CommitNumber) → length (commit_bytes s t) ≡ commit_size s.keys
unfolding commit_bytes
length-commit s t = simp (length-append, length-le_bytes, length-view_bytes) (omega arith)

pub length-versions : (s : Store) (k : Key) (n : ℕ) → length (pieces n (λ i. version_bytes (version s k i))) ≡ 16 * n
length-versions s k n = length-pieces n 16 _ (λ i. length-version (version s k i))

pub length-commits : (s : Store) (n : ℕ) → length (pieces n (λ i. commit_bytes s (suc i))) ≡ commit_size s.keys * n
length-commits s n = length-pieces n (commit_size s.keys) _ (λ i. length-commit s (suc i))

pub length-key : (s : Store) (k : Key) → length (key_bytes s k) ≡ 4 + 16 * count s k
unfolding key_bytes
length-key s k = simp (length-append, length-le_bytes, length-versions s k (count s k))

pub length-image : (s : Store) → length (image s) ≡ 8 + commit_size s.keys * s.commits + length (pieces s.keys (key_bytes s))
unfolding image image_body
length-image s = simp (length-append, length-le_bytes, length-commits s s.commits) (omega arith)

-- ---- at most

-- so many commits of so many keys
pub commits-most : (n count : ℕ) → n ≤ max_keys → count ≤ max_commits → commit_size n * count ≤ commit_size max_keys * max_commits
commits-most n count few some = mul-le-mul (let h : commit_size n ≤ commit_size max_keys = omega arith in h) some

module _ (s : Store) (sound : SoundStore s) (commits : s.commits ≤ max_commits) where
  keys-most : (n : ℕ) → length (pieces n (key_bytes s)) ≤ (4 + 16 * per_key) * n
  unfolding pieces
  keys-most zero = omega arith
  keys-most (suc n) = simp (length-append, length-key) (omega (arith, keys-most n, sound.few n))

  pub length_most : s.keys ≤ max_keys → length (image s) ≤ max_image
  length_most keys = omega (arith, length-image s, keys-most s.keys, commits-most s.keys s.commits keys commits)
