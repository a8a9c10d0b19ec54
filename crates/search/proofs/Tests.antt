-- Tests and the facts that they test: `T b` is the fact that the test b holds, and a test is taken apart by pairs of functions
-- `T b ↔ A`, which are built as the test is. Assumes nothing.
use Prim.Native.Nat.{ℕ, ◌≤◌, ◌<◌}
use mathlib.Core.Path.{◌≡◌, refl, sym, subst}
use mathlib.Core.Bool.{Bool, true, false, ◌&&◌, ◌||◌, not}
use mathlib.Core.Logic.{◌⊎◌, inl, inr, ◌↔◌}
use mathlib.Core.Option.{Option, some, none}
use mathlib.Core.List.{List, [], ◌∷◌}
use native.Mathlib.Omega.{arith}
use lib.Dec.{T, eqb, ltb, leb, eqb→eq, eqb_refl, ltb→lt, lt→ltb, leb→le, le→leb, T_not, not_T}
use Rattle.search.specs.Choose.{is_some, map_some, when, or_else, first_some}

-- a fact is the same fact
pub same : {A : Type 0} → A ↔ A
same = (λ x. x, λ x. x)

pub both : {A B C : Type 0} → A ↔ B → B ↔ C → A ↔ C
both f g = (λ a. g.0 (f.0 a), λ c. f.1 (g.1 c))

-- ---- tests of Bool

pub and_left : (a b : Bool) → T (a && b) → T a
and_left true b t = tt
and_left false b t = absurd t

pub and_right : (a b : Bool) → T (a && b) → T b
and_right true b t = t
and_right false b t = absurd t

pub and_both : (a b : Bool) → T a → T b → T (a && b)
and_both true b s t = t
and_both false b s t = absurd s

pub or_left : (a b : Bool) → T a → T (a || b)
or_left true b t = tt
or_left false b t = absurd t

pub or_right : (a b : Bool) → T b → T (a || b)
or_right true b t = tt
or_right false b t = t

pub or_cases : (a b : Bool) → T (a || b) → T a ⊎ T b
or_cases true b t = inl tt
or_cases false b t = inr t

pub and_is : {A B : Type 0} (a b : Bool) → T a ↔ A → T b ↔ B → T (a && b) ↔ (A × B)
and_is a b f g = (λ t. (f.0 (and_left a b t), g.0 (and_right a b t)), λ x. and_both a b (f.1 x.0) (g.1 x.1))

pub or_is : {A B : Type 0} (a b : Bool) → T a ↔ A → T b ↔ B → T (a || b) ↔ (A ⊎ B)
or_is {A} {B} a b f g = (λ t. out (or_cases a b t), into)
  where
    out : T a ⊎ T b → A ⊎ B
    out (inl x) = inl (f.0 x)
    out (inr x) = inr (g.0 x)

    into : A ⊎ B → T (a || b)
    into (inl x) = or_left a b (f.1 x)
    into (inr x) = or_right a b (g.1 x)

pub not_is : {A : Type 0} (a : Bool) → T a ↔ A → T (not a) ↔ (¬ A)
not_is a f = (λ t x. T_not a t (f.1 x), λ n. not_T a (λ t. n (f.0 t)))

-- a test that does not fail holds
pub stable : (b : Bool) → ¬ ¬ T b → T b
stable true h = tt
stable false h = absurd (h (λ x. x))

pub T? : (b : Bool) → Dec (T b)
T? true = yes tt
T? false = no (λ x. x)

-- a test as an equation, and back
pub T_true : (b : Bool) → T b → b ≡ true
T_true true t = refl
T_true false t = absurd t

pub T_false : (b : Bool) → ¬ T b → b ≡ false
T_false true n = absurd (n tt)
T_false false n = refl

pub true-T : (b : Bool) → b ≡ true → T b
true-T b e = subst T (sym e) tt

pub false-T : (b : Bool) → b ≡ false → ¬ T b
false-T b e t = subst T e t

-- two tests that hold together are equal
pub same_test : (a b : Bool) → (T a → T b) → (T b → T a) → a ≡ b
same_test true b f g = sym (T_true b (f tt))
same_test false b f g = sym (T_false b g)

-- ---- tests of numbers

pub eq_test : (m n : ℕ) → m ≡ n → T (eqb m n)
eq_test m n e = rw e (eqb_refl n)

pub eq_is : (m n : ℕ) → T (eqb m n) ↔ (m ≡ n)
eq_is m n = (eqb→eq m n, eq_test m n)

pub lt-is : (m n : ℕ) → T (ltb m n) ↔ (m < n)
lt-is m n = (ltb→lt m n, lt→ltb m n)

pub le_is : (m n : ℕ) → T (leb m n) ↔ (m ≤ n)
le_is m n = (leb→le m n, le→leb m n)

-- ---- answers

-- an answer is not the absence of one
pub some-none : {A X : Type 0} {a : A} → ◌≡◌ {A = Option A} (some a) none → X
some-none e = let z : ◌≡◌ {A = ℕ} 0 1 = cc in absurd (omega arith)

pub map-none : {A B : Type 0} (f : A → B) (o : Option A) → (map_some f o ≡ none) ↔ (o ≡ none)
unfolding map_some
map-none f none = (λ e. refl, λ e. refl)
map-none f (some a) = (λ e. some-none e, λ e. some-none e)

pub when-none : {A : Type 0} (b : Bool) (a : A) → (when b a ≡ none) ↔ (¬ T b)
unfolding when
when-none true a = (λ e. some-none e, λ n. absurd (n tt))
when-none false a = (λ e x. x, λ n. refl)

pub or_else-none : {A : Type 0} (o p : Option A) → (or_else o p ≡ none) ↔ ((o ≡ none) × (p ≡ none))
unfolding or_else
or_else-none none p = (λ e. (refl, e), λ h. h.1)
or_else-none (some a) p = (λ e. some-none e, λ h. some-none h.0)

-- no question of a list has an answer
abbrev pub NoneOf : {A : Type 0} → List (Option A) → Type 0
NoneOf [] = Unit {0}
NoneOf (o ∷ os) = (o ≡ none) × NoneOf os

pub first_some-none : {A : Type 0} (os : List (Option A)) → (first_some os ≡ none) ↔ NoneOf os
unfolding first_some
first_some-none [] = (λ e. tt, λ n. refl)
first_some-none (o ∷ os) =
    let w = or_else-none o (first_some os) in
    let r = first_some-none os in
    (λ e. ((w.0 e).0, r.0 (w.0 e).1), λ n. w.1 (n.0, r.1 n.1))

pub is_some-none : {A : Type 0} (o : Option A) → T (not (is_some o)) ↔ (o ≡ none)
unfolding is_some
is_some-none none = (λ t. refl, λ e. tt)
is_some-none (some a) = (λ t. absurd t, λ e. some-none e)

pub some_of : {A : Type 0} (o : Option A) → T (is_some o) → (a : A) × (o ≡ some a)
unfolding is_some
some_of none t = absurd t
some_of (some a) t = (a, refl)

pub is_some-some : {A : Type 0} (o : Option A) (a : A) → o ≡ some a → T (is_some o)
unfolding is_some
is_some-some o a e = rw e tt
