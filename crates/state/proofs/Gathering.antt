-- Gathering a set of commits from rows, turn by turn. Assumes nothing.
use Prim.Native.Nat.{ℕ, ◌+◌}
use mathlib.Core.Path.{◌≡◌, subst}
use mathlib.Core.Logic.{◌⊎◌, inl, inr, ◌↔◌}
use mathlib.Core.List.{List}
use lib.Dec.{T}
use lib.ListN.{get_or}
use Rattle.search.proofs.Tests.{same, both}
use Rattle.sets.specs.Set.{Set, has, union, Gives}
use Rattle.sets.proofs.Laws.{has-none}
use Rattle.sets.proofs.Algebra.{gives_is}
use Rattle.store.specs.Store.{CommitNumber}
use Rattle.state.specs.Keeps.{IsSet}
use Rattle.state.specs.Rows.{InRows}
use Rattle.state.proofs.Sets.{is_set-union}

-- what is gathered, with what is in the rows that are left, is all
pub record Gathering (rows : List ℕ) (from : ℕ) (set all left : Set) : Type 0 where
  pub is : (a : CommitNumber) → (T (has all a) ⊎ InRows rows from left a) ↔ InRows rows from set a

pub gathering-ends : {rows : List ℕ} {from : ℕ} {set all left : Set} → Gathering rows from set all left → left ≡ 0 → IsSet all (InRows rows from set)
gathering-ends {rows} {from} {set} {all} {left} g e a = (λ x. (g.is a).0 (inl x), λ y. go ((g.is a).1 y))
  where
    go : T (has all a) ⊎ InRows rows from left a → T (has all a)
    go (inl x) = x
    go (inr (t, x, y)) = absurd (has-none t (rw e at x))

-- the rows of a set: that of the number that it gives, and those of what is left
given-and-left : (rows : List ℕ) (from : ℕ) {set t left : Set} → Gives set t left → (a : CommitNumber)
    → InRows rows from set a ↔ (T (has (get_or rows (from + t) 0) a) ⊎ InRows rows from left a)
given-and-left rows from {set} {t} {left} g a = (λ (i, x, y). out i y ((gives_is g i).0 x), back)
  where
    out : (i : ℕ) → T (has (get_or rows (from + i) 0) a) → (i ≡ t) ⊎ T (has left i) → T (has (get_or rows (from + t) 0) a) ⊎ InRows rows from left a
    out i y (inl e) = inl (subst (λ (n : ℕ). T (has (get_or rows (from + n) 0) a)) e y)
    out i y (inr x) = inr (i, x, y)

    back : T (has (get_or rows (from + t) 0) a) ⊎ InRows rows from left a → InRows rows from set a
    back (inl y) = (t, g.held, y)
    back (inr (i, x, y)) = (i, (gives_is g i).1 (inr x), y)

pub gathering-on : {rows : List ℕ} {from : ℕ} {set all left t next rest : Set} → Gathering rows from set all left → Gives left t rest
    → next ≡ union all (get_or rows (from + t) 0) → Gathering rows from set next rest
gathering-on {rows} {from} {set} {all} {left} {t} {rest = rest} g f e = rw e (record { is = λ a. both (there a, here a) (g.is a) })
  where
    row : Set
    row = get_or rows (from + t) 0

    in-union : (a : CommitNumber) → T (has (union all row) a) ↔ (T (has all a) ⊎ T (has row a))
    in-union = is_set-union all row (λ a. same) (λ a. same)

    split : (a : CommitNumber) → InRows rows from left a ↔ (T (has row a) ⊎ InRows rows from rest a)
    split = given-and-left rows from f

    there : (a : CommitNumber) → T (has (union all row) a) ⊎ InRows rows from rest a → T (has all a) ⊎ InRows rows from left a
    there a (inr y) = inr ((split a).1 (inr y))
    there a (inl x) = go ((in-union a).0 x)
      where
        go : T (has all a) ⊎ T (has row a) → T (has all a) ⊎ InRows rows from left a
        go (inl y) = inl y
        go (inr y) = inr ((split a).1 (inl y))

    here : (a : CommitNumber) → T (has all a) ⊎ InRows rows from left a → T (has (union all row) a) ⊎ InRows rows from rest a
    here a (inl x) = inl ((in-union a).1 (inl x))
    here a (inr y) = go ((split a).0 y)
      where
        go : T (has row a) ⊎ InRows rows from rest a → T (has (union all row) a) ⊎ InRows rows from rest a
        go (inl z) = inl ((in-union a).1 (inr z))
        go (inr z) = inr z
