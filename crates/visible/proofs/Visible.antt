-- What the test of visibility says of a store, and what its rows say. Assumes nothing.
use Prim.Native.Nat.{ℕ, ◌≤◌, ◌<◌}
use native.Mathlib.Omega.{arith}
use native.Mathlib.Decide.{dec_lt}
use mathlib.Core.Path.{◌≡◌, refl, sym, ap, ◌∙◌, subst}
use mathlib.Core.Logic.{◌↔◌}
use lib.Dec.{T, ltb}
use Rattle.search.proofs.Tests.{and_is, lt-is}
use Rattle.sets.specs.Set.{has}
use Rattle.sets.proofs.Counting.{has-set_of, set_of-has}
use Rattle.dependencies.specs.History.{Holds}
use Rattle.store.specs.Store.{CommitNumber, VersionNumber, Store, count, version, next_number}
use Rattle.store.specs.History.{Wrote, history, held}
use Rattle.store.specs.Links.{holds}
use Rattle.store.specs.Sound.{SoundStore}
use Rattle.store.specs.StoredView.{ViewBefore}
use Rattle.store.proofs.Links.{holds-means}
use Rattle.growth.specs.Ordered.{Ordered}
use Rattle.ordering.proofs.Shape.{WellFormed}
use Rattle.visible.specs.Visible.{visible, row, LastVisible, last, nobody}

module _ (s : Store) (h : SoundStore s) where
  -- the test says that a version by a is in the view of b
  pub visible-is : (a b : CommitNumber) → T (visible s a b) ↔ ((0 < a) × Holds (history s) (held (s.view_of b)) a)
  unfolding visible
  visible-is a b = and_is (ltb 0 a) (holds s (s.view_of b) a) (lt-is 0 a) (holds-means s h (s.view_of b) a)

  -- a bit of a row: "bit c set exactly if commit c is visible"
  pub row_is : (a b : CommitNumber) → T (has (row s b) a) ↔ T (visible s a b)
  row_is a b = (
    λ x. (has-set_of (next_number s) (λ y. visible s y b) a x).1,
    λ x. let (p, (k, i, y, w)) = (visible-is a b).0 x in set_of-has (next_number s) (λ y. visible s y b) a (h.writers a k i w) x,
  )

  -- where the view of b is a view, it holds each version by a commit that b sees
  sees-all : (a b : CommitNumber) → ViewBefore s b (s.view_of b) → T (visible s a b) → (k i : ℕ) → Wrote s a k i → held (s.view_of b) k i
  sees-all a b v x k i w = let (p, (l, j, y, z)) = (visible-is a b).0 x in v.whole l j k i y w.0 (w.1 ∙ sym z.1)

  -- a version that is the newest in the view of b is by the last writer that b sees, or it is the opening one
  pub last-visible : Ordered s → WellFormed s → (b : CommitNumber) → ViewBefore s b (s.view_of b) → (k i : ℕ) → i < count s k → held (s.view_of b) k i
      → ((j : ℕ) → held (s.view_of b) k j → j ≤ i) → LastVisible s b k (version s k i).value
  last-visible o w b v k i l here newest = go (dec_lt 0 i)
    where
      seen : (j : VersionNumber) → j < count s k → T (visible s (version s k j).writer b) → j ≤ i
      seen j m x = newest j (sees-all (version s k j).writer b v x k j (m, refl))

      -- versions stand in the order of their writers
      up_to : (j : VersionNumber) → j < count s k → j ≤ i → (version s k j).writer ≤ (version s k i).writer
      up_to j m le = less (dec_lt j i)
        where
          less : Dec (j < i) → (version s k j).writer ≤ (version s k i).writer
          less (yes n) = let x = o.writers-rise (version s k j).writer (version s k i).writer k j i (m, refl) (l, refl) n in omega arith
          less (no n) = let e : j ≡ i = omega arith in omega (arith, ap (λ (y : ℕ). (version s k y).writer) e)

      go : Dec (0 < i) → LastVisible s b k (version s k i).value
      go (yes p) =
          let writer = (w.writers k i p l).0 in
          last {i = i} l ((visible-is (version s k i).writer b).1 (writer, (k, i, here, (l, refl)))) (λ j m x. up_to j m (seen j m x))
      go (no n) =
          let z : i ≡ 0 = omega arith in
          subst (LastVisible s b k) (sym (ap (λ (x : ℕ). (version s k x).value) z ∙ w.first-value k (omega arith)))
          (nobody (λ j m x.
          let le = seen j m x in
          let e : j ≡ 0 = omega arith in
          let positive : 0 < (version s k j).writer = ((visible-is (version s k j).writer b).0 x).0 in
          omega (arith, ap (λ (y : ℕ). (version s k y).writer) e, w.first-writer k (omega arith))))
