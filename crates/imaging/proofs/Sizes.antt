-- How long the image is, by the judge's full masks. Assumes nothing.
use Prim.Native.Nat.{ℕ, zero, suc, ◌+◌, ◌*◌, ◌≤◌, ◌<◌}
use mathlib.Core.Path.{◌≡◌, refl, ap, ◌∙◌, subst}
use mathlib.Core.Logic.{⊎_elim}
use mathlib.Core.List.{List}
use native.Mathlib.Omega.{arith}
use native.Mathlib.Nat.{le_of_suc-le-suc, eq-or-lt_of_le, mul-suc, mul-le-mul_left}
use native.Mathlib.Numerals.{add-one}
use lib.ListN.{length, get_or, length-append}
use Rattle.sets.specs.Set.{size}
use Rattle.sets.proofs.Counting.{full-count}
use Rattle.endian.specs.Endian.{pieces}
use Rattle.store.specs.Store.{Store, count}
use Rattle.store.specs.Image.{key_bytes, image}
use Rattle.store.specs.Reading.{commit_size}
use Rattle.store.proofs.ImageSizes.{length-key, length-image}
use Rattle.state.specs.Keeps.{KeepsKeys}
use Rattle.imaging.specs.Parts.{keys_size, whole_size}

-- ---- by the full masks

pub keys_size-suc : (keys : List ℕ) (k : ℕ) → keys_size keys (suc k) ≡ keys_size keys k + (4 + 16 * size (get_or keys k 0))
unfolding keys_size
keys_size-suc keys k = refl

-- fewer keys take no more
keys_size-mono : (keys : List ℕ) (j n : ℕ) → j ≤ n → keys_size keys j ≤ keys_size keys n
keys_size-mono keys j zero h = let e : j ≡ 0 = omega arith in omega (arith, ap (keys_size keys) e)
keys_size-mono keys j (suc n) h =
    ⊎_elim (λ e. omega (arith, ap (keys_size keys) e)) (λ l. omega (arith, keys_size-mono keys j n (le_of_suc-le-suc l), keys_size-suc keys n)) (eq-or-lt_of_le h)

-- a key among the first n has its bytes within theirs
pub key-within : (keys : List ℕ) (k n : ℕ) → k < n → keys_size keys k + (4 + 16 * size (get_or keys k 0)) ≤ keys_size keys n
key-within keys k n h = omega (arith, keys_size-mono keys (suc k) n h, keys_size-suc keys k)

module _ (s : Store) (keys : List ℕ) (kept : KeepsKeys s keys) where
  pub length-keys : (n : ℕ) → n ≤ s.keys → length (pieces n (key_bytes s)) ≡ keys_size keys n
  unfolding pieces keys_size
  length-keys zero h = refl
  length-keys (suc n) h =
      let e : size (get_or keys n 0) ≡ count s n = full-count _ _ (kept.full n h) in
      simp (length-append, length-key, length-keys n (omega arith), e)

  pub length_whole : (n commits : ℕ) → s.keys ≡ n → s.commits ≡ commits → whole_size keys n commits ≡ length (image s)
  length_whole n commits k c = rw (← k, ← c) (omega (arith, length-image s, length-keys s.keys (omega arith)))

-- ---- the commits

-- a commit more takes its own bytes more
pub commits-suc : (n i : ℕ) → commit_size n * (i + 1) ≡ commit_size n * i + commit_size n
commits-suc n i = ap (λ (j : ℕ). commit_size n * j) (add-one i) ∙ mul-suc (commit_size n) i

-- a commit among the first `count` has its bytes within theirs
pub commit-within : (n i count : ℕ) → i < count → commit_size n * i + commit_size n ≤ commit_size n * count
commit-within n i count l = subst (λ (m : ℕ). m ≤ commit_size n * count) (mul-suc (commit_size n) i) (mul-le-mul_left (commit_size n) l)
