-- Code that makes the tests of a definition in its order answers what the definition does: one step for each test that the code
-- made, with `tests` to prove from what the code knows that the test came out so. Assumes nothing.
use mathlib.Core.Path.{◌≡◌}
use mathlib.Core.Bool.{Bool, true, false}
use native.Mathlib.Omega.{arith}
use borrow.Author.Tests.{lt-ltb, le-ltb, le-leb, lt-leb, eq-eqb, ne_eqb}
use Rattle.search.specs.Choose.{choose, need}

-- `omega tests` proves that a test of numbers comes out true, or false
pub ruleset tests = (arith, lt-ltb, le-ltb, le-leb, lt-leb, eq-eqb, ne_eqb)

module _ {ℓ} {A : Type ℓ} where
  -- a condition that is met
  pub need-met : (t : Bool) (bad rest : A) {x : A} → t ≡ true → x ≡ rest → x ≡ need t bad rest
  unfolding need
  need-met t bad rest e p = rw e p

  -- a condition that is not
  pub need-unmet : (t : Bool) (bad rest : A) → t ≡ false → bad ≡ need t bad rest
  unfolding need
  need-unmet t bad rest e = rw e

  -- a choice of the first value
  pub choose-first : (t : Bool) (a b : A) {x : A} → t ≡ true → x ≡ a → x ≡ choose t a b
  unfolding choose
  choose-first t a b e p = rw e p

  -- a choice of the second
  pub choose-second : (t : Bool) (a b : A) {x : A} → t ≡ false → x ≡ b → x ≡ choose t a b
  unfolding choose
  choose-second t a b e p = rw e p
