-- A set whose numbers are taken one after the other from the lowest on: what is passed, and what is left. Assumes nothing.
use Prim.Native.Nat.{ℕ, ◌+◌, ◌^◌, ◌≤◌, ◌<◌, zero-le}
use mathlib.Core.Path.{◌≡◌}
use mathlib.Core.Logic.{inr, ⊎_elim, ◌↔◌}
use native.Mathlib.Omega.{arith}
use native.Mathlib.Numerals.{add-one}
use lib.Dec.{T}
use Rattle.search.specs.Choose.{choose}
use Rattle.search.specs.Search.{how_many}
use Rattle.search.proofs.Tests.{T_true}
use Rattle.search.proofs.Counting.{how_many-passed, how_many-mono}
use Rattle.sets.specs.Set.{Set, has, size, Gives}
use Rattle.sets.proofs.Laws.{has-none}
use Rattle.sets.proofs.Algebra.{gives_is, gives-left}
use Rattle.sets.proofs.Counting.{size-how_many}

-- the numbers of `listed` below `low` are passed, and `left` are the others; what is passed is not beyond what is listed
pub record Passed (listed : Set) (low : ℕ) (left : Set) : Type 0 where
  pub left_is : (k : ℕ) → T (has left k) ↔ (T (has listed k) × (low ≤ k))
  pub bound : (n : ℕ) → ((k : ℕ) → T (has listed k) → k < n) → low ≤ n

pub passed_none : (listed : Set) → Passed listed 0 listed
passed_none listed = record { left_is = λ k. (λ t. (t, zero-le), λ h. h.0); bound = λ n l. zero-le }

module _ {listed : Set} {low : ℕ} {left : Set} (h : Passed listed low left) where
  -- none is left: none is listed from there on
  pub passed-all : left ≡ 0 → (k : ℕ) → low ≤ k → ¬ T (has listed k)
  passed-all none k from t = has-none k (rw none at ((h.left_is k).1 (t, from)))

  module _ {i : ℕ} {rest : Set} (given : Gives left i rest) where
    -- the least that is left is listed, and none before it that is not passed
    pub next-listed : T (has listed i) × (low ≤ i)
    next-listed = (h.left_is i).0 given.held

    pub none_between : (k : ℕ) → low ≤ k → k < i → ¬ T (has listed k)
    none_between k from to t = let least = given.least k ((h.left_is k).1 (t, from)) in absurd (omega arith)

    -- as many are passed before it as there were
    pub count-to : how_many i (has listed) ≡ how_many low (has listed)
    count-to = how_many-passed low i (has listed) next-listed.1 none_between

    pub count-with : how_many (i + 1) (has listed) ≡ how_many low (has listed) + 1
    unfolding how_many choose
    count-with = rw (add-one i, T_true (has listed i) next-listed.0) (omega (arith, count-to))

    -- and with it no more than all
    pub count_room : listed < 2 ^ 64 → how_many low (has listed) + 1 ≤ size listed
    count_room all-word =
        let many = how_many-mono (i + 1) 64 (has listed) (omega (arith, given.bound)) in
        let total = size-how_many 64 listed all-word in
        let one = count-with in
        omega arith

    pub passed-more : Passed listed (i + 1) rest
    passed-more = record {
      left_is = λ j. (
        λ t. (((h.left_is j).0 ((gives_is given j).1 (inr t))).0, omega (arith, gives-left given j t)),
        λ (t, from). ⊎_elim (λ e. absurd (omega arith)) (λ x. x) ((gives_is given j).0 ((h.left_is j).1 (t, omega (arith, next-listed.1)))),
      );
      bound = λ n below. omega (arith, below i next-listed.0);
    }
