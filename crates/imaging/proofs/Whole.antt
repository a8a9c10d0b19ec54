-- The parts of the image, put one after the other. Assumes nothing.
use Prim.Native.Nat.{ℕ, suc, ◌+◌, ◌*◌, ◌≤◌, ◌<◌}
use mathlib.Core.Path.{◌≡◌, refl, ap, ◌∙◌}
use mathlib.Core.List.{List, ◌++◌, append_assoc}
use native.Mathlib.Omega.{arith}
use lib.ListN.{length, length-append}
use Rattle.endian.specs.Endian.{le_bytes, put_at, pieces}
use Rattle.endian.proofs.Laws.{length-le_bytes, le_bytes-counts}
use Rattle.endian.proofs.Put.{put_next}
use Rattle.store.specs.Store.{Store}
use Rattle.store.specs.Image.{commit_bytes, key_bytes, image_body, image}
use Rattle.store.specs.Reading.{commit_size}
use Rattle.store.proofs.ImageSizes.{length-commits, length-image}
use Rattle.imaging.specs.Parts.{head_bytes}

-- ---- the first 8 bytes

length-head : (whole n commits : ℕ) → length (head_bytes whole n commits) ≡ 8
length-head whole n commits = simp (length-append, length-le_bytes)

head-words : (whole n commits : ℕ) → n < 256 → le_bytes 4 whole ++ le_bytes 2 (n + 256 * commits) ++ le_bytes 2 0 ≡ head_bytes whole n commits
head-words whole n commits small = rw (le_bytes-counts n commits small) (simp append_assoc)

-- they are put as three numbers
pub put-head : (d : List ℕ) (whole n commits : ℕ) {first second third : List ℕ} → 8 ≤ length d → n < 256
    → first ≡ put_at d 0 (le_bytes 4 whole) → second ≡ put_at first 4 (le_bytes 2 (n + 256 * commits)) → third ≡ put_at second 6 (le_bytes 2 0)
    → third ≡ put_at d 0 (head_bytes whole n commits)
put-head d whole n commits room small e f g =
    let counts = le_bytes 2 (n + 256 * commits) in
    let one = put_next d 0 4 4 (le_bytes 4 whole) counts e (length-le_bytes 4 whole) refl (omega arith) f in
    put_next d 0 6 6 (le_bytes 4 whole ++ counts) (le_bytes 2 0) one (simp (length-append, length-le_bytes)) refl (omega arith) g
    ∙ ap (λ l. put_at d 0 l) (head-words whole n commits small)

-- ---- the image

length-first : (s : Store) → length (image s) ≡ 8 + length (image_body s)
unfolding image
length-first s = simp (length-append, length-le_bytes) (omega arith)

regroup : (whole n commits : ℕ) (a b : List ℕ)
    → head_bytes whole n commits ++ a ++ b ≡ le_bytes 4 whole ++ (le_bytes 1 n ++ (le_bytes 1 commits ++ (le_bytes 2 0 ++ (a ++ b))))
regroup whole n commits a b = simp append_assoc

module _ (s : Store) where
  commits_part : List ℕ
  commits_part = pieces s.commits (λ i. commit_bytes s (suc i))

  keys_part : List ℕ
  keys_part = pieces s.keys (key_bytes s)

  image-parts : (whole : ℕ) → whole ≡ length (image s) → head_bytes whole s.keys s.commits ++ commits_part ++ keys_part ≡ image s
  unfolding image image_body commits_part keys_part
  image-parts whole e =
      regroup whole s.keys s.commits commits_part keys_part
      ∙ ap (λ w. le_bytes 4 w ++ (le_bytes 1 s.keys ++ (le_bytes 1 s.commits ++ (le_bytes 2 0 ++ image_body s)))) (e ∙ length-first s)

  -- the first 8 bytes, the commits and the keys, put one behind the other, are the image
  pub put-image : (d : List ℕ) (whole n commits : ℕ) {first second third : List ℕ}
      → whole ≡ length (image s) → s.keys ≡ n → s.commits ≡ commits → whole ≤ length d
      → first ≡ put_at d 0 (head_bytes whole n commits)
      → second ≡ put_at first 8 (pieces commits (λ i. commit_bytes s (suc i)))
      → third ≡ put_at second (8 + commit_size n * commits) (pieces n (key_bytes s))
      → third ≡ put_at d 0 (image s)
  unfolding commits_part keys_part
  put-image d whole n commits e k c room f g h =
      let head = head_bytes whole s.keys s.commits in
      let long : length (head ++ commits_part) ≡ 8 + commit_size s.keys * s.commits = simp (length-append, length-le_bytes, length-commits s s.commits) in
      let l = length-image s in
      let one = put_next d 0 8 8 head commits_part (rw (← k, ← c) at f) (length-head whole s.keys s.commits) refl (omega arith) (rw (← c) at g) in
      put_next d 0 (8 + commit_size s.keys * s.commits) (8 + commit_size s.keys * s.commits) (head ++ commits_part) keys_part one long (omega arith) (omega arith) (rw (← k, ← c) at h)
      ∙ ap (λ x. put_at d 0 x) (image-parts whole e)
