-- The image of a store is well shaped, where the store is well formed and an image has room for it. Assumes nothing.
use Prim.Native.Nat.{ℕ, suc, ◌+◌, ◌*◌, ◌≤◌, ◌<◌}
use mathlib.Core.Path.{◌≡◌, refl, sym, ap, ◌∙◌, subst}
use mathlib.Core.Bool.{◌&&◌}
use native.Mathlib.Omega.{arith}
use mathlib.Core.List.{List}
use lib.Dec.{T, eqb, ltb, leb}
use lib.ListN.{length, length-append}
use Rattle.search.proofs.Tests.{and_both, eq_test, eq_is, lt-is, le_is}
use Rattle.endian.specs.Endian.{le_at}
use Rattle.endian.proofs.Laws.{length-le_bytes}
use Rattle.endian.proofs.Stands.{Stands, stands-whole, stands_at, stands-behind, stands-piece, read_first}
use Rattle.store.specs.Limits.{max_keys, max_clients, max_commits, max_image}
use Rattle.store.specs.Store.{Key, Store, count, version}
use Rattle.store.specs.Image.{version_bytes, key_bytes, commit_bytes, image_body, image}
use Rattle.store.specs.Reading.{image_keys, image_commits, commit_place, key_place, store_of, FitsImage}
use Rattle.store.proofs.ImageSizes.{length-version, length-image, length_most}
use Rattle.store.proofs.Reading.{from-commits, keys-back, commits-back, commit-stands, client-back, key-stands, count-back, key-place, store_of-image}
use Rattle.ordering.specs.Shape.{every, well_formed}
use Rattle.ordering.proofs.Shape.{WellFormed, bare-sound}
use Rattle.ordering.proofs.Formed.{every-is, well-formed-is}
use Rattle.reading.specs.Shape.{sizes_right, clients_known, spares_zero, well_shaped}

module _ (s : Store) (fits : FitsImage s) (formed : WellFormed s) (some_key : 0 < s.keys) where
  abbrev b : List ℕ
  b = image s

  -- ---- "wrong length or sizes"

  long : 8 + length (image_body s) ≡ length b
  unfolding image
  long = sym (simp (length-append, length-le_bytes) (omega arith))

  few_bytes : length b ≤ max_image
  few_bytes = length_most s (bare-sound s formed) fits.few-commits fits.few-keys

  length_back : le_at b 0 4 ≡ length b
  unfolding image
  length_back = read_first 4 (8 + length (image_body s)) _ (omega (arith, long, few_bytes)) (stands-whole (image s)) ∙ long

  filled : key_place b (image_keys b) ≡ length b
  filled = ap (key_place b) (keys-back s fits) ∙ key-place s fits s.keys (omega arith) ∙ sym (length-image s)

  sizes : T (sizes_right b)
  unfolding sizes_right
  sizes =
      and_both (leb 8 (length b) && eqb (le_at b 0 4) (length b)) _
      (and_both (leb 8 (length b)) _ ((le_is 8 (length b)).1 (omega (arith, long))) (eq_test (le_at b 0 4) (length b) length_back))
      (and_both (ltb 0 (image_keys b) && leb (image_keys b) max_keys) _
      (and_both (ltb 0 (image_keys b)) _ ((lt-is 0 (image_keys b)).1 (omega (arith, keys-back s fits))) ((le_is (image_keys b) max_keys).1 (omega (arith, keys-back s fits, fits.few-keys))))
      (and_both (leb (image_commits b) max_commits) _ ((le_is (image_commits b) max_commits).1 (omega (arith, commits-back s fits, fits.few-commits))) (eq_test _ _ filled)))

  -- ---- "client above 15"

  in-commits : (i : ℕ) → i < image_commits b → i < s.commits
  in-commits i l = omega (arith, commits-back s fits)

  clients : T (clients_known b)
  unfolding clients_known
  clients =
      (every-is (image_commits b) (λ i. ltb (le_at b (commit_place b (suc i)) 1) max_clients) (λ i. lt-is (le_at b (commit_place b (suc i)) 1) max_clients)).1
      (λ i l. omega (arith, client-back s fits i (in-commits i l), fits.client (suc i)))

  -- ---- "spare not zero"

  head-zeros : le_at b 6 2 ≡ 0
  head-zeros = read_first 2 0 _ (omega arith) (stands-behind 1 _ _ 6 refl (from-commits s fits))

  entry-zeros : (i : ℕ) → i < s.commits → le_at b (commit_place b (suc i) + 1) 3 ≡ 0
  unfolding commit_bytes
  entry-zeros i l = read_first 3 0 _ (omega arith) (stands-behind 1 _ _ (commit_place b (suc i) + 1) refl (commit-stands s fits i l))

  key_here : (k : Key) → k < s.keys → Stands b (key_place b k) (key_bytes s k)
  key_here k l = stands_at (sym (key-place s fits k (omega arith))) (key-stands s fits k l)

  version-zeros : (k i : ℕ) → k < s.keys → i < count s k → le_at b (key_place b k + 4 + 16 * i + 5) 3 ≡ 0
  unfolding key_bytes version_bytes
  version-zeros k i l m =
      let at = key_place b k + 4 + 16 * i in
      let here : Stands b at (version_bytes (version s k i)) =
      stands-piece (count s k) 16 i (λ j. version_bytes (version s k j)) (λ j. length-version (version s k j)) m (stands-behind 4 _ _ (key_place b k + 4) refl (key_here k l)) in
      read_first 3 0 _ (omega arith) (stands-behind 1 _ _ (at + 5) (omega arith) (stands-behind 4 _ _ (at + 4) refl here))

  spares : T (spares_zero b)
  unfolding spares_zero
  spares =
      and_both (eqb (le_at b 6 2) 0 && every (image_commits b) (λ i. eqb (le_at b (commit_place b (suc i) + 1) 3) 0)) _
      (and_both (eqb (le_at b 6 2) 0) _ (eq_test _ 0 head-zeros)
      ((every-is (image_commits b) _ (λ i. eq_is (le_at b (commit_place b (suc i) + 1) 3) 0)).1 (λ i l. entry-zeros i (in-commits i l))))
      ((every-is (image_keys b) _ (λ k. every-is (le_at b (key_place b k) 4) _ (λ i. eq_is (le_at b (key_place b k + 4 + 16 * i + 5) 3) 0))).1
      (λ k l i m.
      let in-keys : k < s.keys = omega (arith, keys-back s fits) in
      version-zeros k i in-keys (omega (arith, count-back s fits k (key_place b k) (key_here k in-keys)))))

  pub image-shaped : T (well_shaped b)
  unfolding well_shaped
  image-shaped =
      and_both (sizes_right b && clients_known b) _ (and_both (sizes_right b) (clients_known b) sizes clients)
      (and_both (spares_zero b) (well_formed (store_of b)) spares
      (subst (λ (x : Store). T (well_formed x)) (sym (store_of-image s fits)) ((well-formed-is s fits.only-keys).1 formed)))
