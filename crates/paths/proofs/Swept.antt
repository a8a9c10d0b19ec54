-- The rows of a run of numbers, and those of a set that begins with one. Assumes nothing.
use Prim.Native.Nat.{ℕ, ◌+◌, ◌^◌, ◌<◌}
use mathlib.Core.Path.{◌≡◌, subst}
use mathlib.Core.Logic.{◌⊎◌, inl, inr, ◌↔◌}
use mathlib.Core.List.{List}
use native.Mathlib.Omega.{arith}
use native.Mathlib.Decide.{dec_lt}
use lib.Dec.{T}
use lib.ListN.{get_or}
use Rattle.search.proofs.Tests.{T?, stable}
use Rattle.sets.specs.Set.{Set, has, single, union, without, below, lowest}
use Rattle.sets.proofs.Laws.{single-has, single-only, has-none, has-below, below-has, lowest-least, lowest-word}
use Rattle.sets.proofs.Algebra.{without_is}
use Rattle.state.specs.Keeps.{IsSet}
use Rattle.state.specs.Rows.{InRows}
use Rattle.state.proofs.Sets.{is_set-as, is_set-union}

-- ---- the run that a set begins with

-- what is not absent is in the set
not-absent : {absent : Set} (set : Set) → absent ≡ without (below 64) set → (i : ℕ) → i < 64 → ¬ T (has absent i) → T (has set i)
not-absent set e i l n = stable (has set i) (λ x. n (rw e ((without_is (below 64) set i).1 (has-below 64 i l, x))))

-- where nothing is absent all are in it,
pub run-of-all : {absent : Set} (set : Set) → absent ≡ without (below 64) set → absent ≡ 0 → (i : ℕ) → i < 64 → T (has set i)
run-of-all set e z i l = not-absent set e i l (λ h. has-none i (rw z at h))

-- and otherwise those below the lowest that is
pub run-to-lowest : {absent : Set} (set : Set) → absent ≡ without (below 64) set → 0 < absent → absent < 2 ^ 64 → (i : ℕ) → i < lowest absent → T (has set i)
run-to-lowest {absent} set e p w i l = not-absent set e i (omega (arith, lowest-word absent p w)) (λ h. absurd (omega (arith, lowest-least absent p w i h)))

-- ---- rows

module _ (rows : List ℕ) (from : ℕ) where
  -- the rows of two sets, joined, are those of the numbers of both
  rows-joined : (a b c : Set) → ((t : ℕ) → T (has c t) ↔ (T (has a t) ⊎ T (has b t))) → (x y : Set) → IsSet x (InRows rows from a) → IsSet y (InRows rows from b)
      → {z : Set} → z ≡ union x y → IsSet z (InRows rows from c)
  rows-joined a b c h x y p q e = rw e (is_set-as (union x y) (λ i. (out i, λ (t, m, r). back i t r ((h t).0 m))) (is_set-union x y p q))
    where
      out : (i : ℕ) → InRows rows from a i ⊎ InRows rows from b i → InRows rows from c i
      out i (inl (t, m, r)) = (t, (h t).1 (inl m), r)
      out i (inr (t, m, r)) = (t, (h t).1 (inr m), r)

      back : (i t : ℕ) → T (has (get_or rows (from + t) 0) i) → T (has a t) ⊎ T (has b t) → InRows rows from a i ⊎ InRows rows from b i
      back i t r (inl m) = inl (t, m, r)
      back i t r (inr m) = inr (t, m, r)

  -- the row of a number
  row_of : (t : ℕ) → IsSet (get_or rows (from + t) 0) (InRows rows from (single t))
  row_of t i = (λ r. (t, single-has t, r), λ (x, m, r). subst (λ (n : ℕ). T (has (get_or rows (from + n) 0) i)) (single-only t x m) r)

  -- a sweep takes the next one
  pub sweep-on : (t : ℕ) (all : Set) → IsSet all (InRows rows from (below t)) → (j : ℕ) → j ≡ from + t → {next : Set} → next ≡ union all (get_or rows j 0)
      → IsSet next (InRows rows from (below (t + 1)))
  sweep-on t all is j e = rw e (rows-joined (below t) (single t) (below (t + 1)) (λ i. (out i, back i)) all (get_or rows (from + t) 0) is (row_of t))
    where
      out : (i : ℕ) → T (has (below (t + 1)) i) → T (has (below t) i) ⊎ T (has (single t) i)
      out i m = go (dec_lt i t)
        where
          go : Dec (i < t) → T (has (below t) i) ⊎ T (has (single t) i)
          go (yes l) = inl (has-below t i l)
          go (no n) = let e : i ≡ t = omega (arith, below-has (t + 1) i m) in inr (rw e (single-has t))

      back : (i : ℕ) → T (has (below t) i) ⊎ T (has (single t) i) → T (has (below (t + 1)) i)
      back i (inl m) = has-below (t + 1) i (omega (arith, below-has t i m))
      back i (inr m) = has-below (t + 1) i (omega (arith, single-only t i m))

  -- the rows of a set: those of the run that it begins with, and the others
  pub run-and-others : (n : ℕ) (set : Set) {rest : Set} → ((i : ℕ) → i < n → T (has set i)) → rest ≡ without set (below n) → (run others : Set)
      → IsSet run (InRows rows from (below n)) → IsSet others (InRows rows from rest) → {all : Set} → all ≡ union run others → IsSet all (InRows rows from set)
  run-and-others n set {rest} h f = rows-joined (below n) rest set (λ i. (λ m. out i m (T? (has (below n) i)), back i))
    where
      out : (i : ℕ) → T (has set i) → Dec (T (has (below n) i)) → T (has (below n) i) ⊎ T (has rest i)
      out i m (yes l) = inl l
      out i m (no x) = inr (rw f ((without_is set (below n) i).1 (m, x)))

      back : (i : ℕ) → T (has (below n) i) ⊎ T (has rest i) → T (has set i)
      back i (inl m) = h i (below-has n i m)
      back i (inr m) = ((without_is set (below n) i).0 (rw f at m)).0
