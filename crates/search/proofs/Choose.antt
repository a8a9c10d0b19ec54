-- Laws of `choose`, `need` and `when`. What is defined by a row of tests is reasoned about through these, with all three shut. Assumes nothing.
use Prim.Native.Nat.{ℕ}
use mathlib.Core.Path.{◌≡◌, refl}
use mathlib.Core.Logic.{◌≢◌}
use mathlib.Core.Bool.{Bool, true, false, not}
use lib.Dec.{T, eqb, eqb_refl}
use mir.Facts.{no_eqb}
use Rattle.search.specs.Choose.{is_some, choose, need, when}

-- ---- a choice

module _ {ℓ} {A : Type ℓ} where
  -- where the test holds it is the first value
  pub choose_yes : (t : Bool) (x y : A) → T t → choose t x y ≡ x
  unfolding choose
  choose_yes true x y h = refl
  choose_yes false x y h = absurd h

  -- where it fails, the second
  pub choose_no : (t : Bool) (x y : A) → T (not t) → choose t x y ≡ y
  unfolding choose
  choose_no true x y h = absurd h
  choose_no false x y h = refl

  -- the entry of a table at the number that was changed
  pub choose-same : (n : ℕ) (x y : A) → choose (eqb n n) x y ≡ x
  choose-same n x y = choose_yes (eqb n n) x y (eqb_refl n)

  -- and at another number
  pub choose-other : (m n : ℕ) (x y : A) → m ≢ n → choose (eqb m n) x y ≡ y
  choose-other m n x y h = choose_no (eqb m n) x y (no_eqb h)

  -- what holds of both values, each where it is chosen, holds of the choice
  pub choose-ind {κ} : (P : A → Type κ) (t : Bool) (x y : A) → (T t → P x) → (T (not t) → P y) → P (choose t x y)
  unfolding choose
  choose-ind P true x y f g = f tt
  choose-ind P false x y f g = g tt

-- ---- a condition for going on

module _ {ℓ} {A : Type ℓ} where
  -- where it is met
  pub need-yes : (t : Bool) (bad rest : A) → T t → need t bad rest ≡ rest
  unfolding need
  need-yes true bad rest h = refl
  need-yes false bad rest h = absurd h

  -- where it is not
  pub need-no : (t : Bool) (bad rest : A) → T (not t) → need t bad rest ≡ bad
  unfolding need
  need-no true bad rest h = absurd h
  need-no false bad rest h = refl

  -- what holds of `bad`, and of `rest` where the condition is met, holds of the whole
  pub need-ind {κ} : (P : A → Type κ) (t : Bool) (bad rest : A) → P bad → (T t → P rest) → P (need t bad rest)
  unfolding need
  need-ind P true bad rest b r = r tt
  need-ind P false bad rest b r = b

  -- an answer other than `bad` comes from the rest, the condition being met
  pub need-taken : (t : Bool) (bad rest : A) {x : A} → bad ≢ x → need t bad rest ≡ x → T t × (rest ≡ x)
  unfolding need
  need-taken true bad rest n e = (tt, e)
  need-taken false bad rest n e = absurd (n e)

-- ---- an answer where a test holds

pub is_some-when : {A : Type 0} (b : Bool) (a : A) → is_some (when b a) ≡ b
unfolding is_some when
is_some-when true a = refl
is_some-when false a = refl
