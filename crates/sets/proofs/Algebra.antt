-- What each operation on sets holds, as equations of tests; sets that hold the same numbers are one number. Assumes nothing.
use mathlib.Core.Path.{◌≡◌, refl, sym, ap, ◌∙◌, subst}
use mathlib.Core.Bool.{Bool, true≢false, false≢true, ◌&&◌, ◌||◌, not}
use mathlib.Core.Logic.{◌⊎◌, inl, inr, ◌↔◌}
use Prim.Native.Nat.{ℕ, zero, suc, ◌+◌, ◌%◌, ◌^◌, ◌<◌, min, max}
use native.Mathlib.Nat.{mod-eq_of_lt, one-mul, pow-suc}
use native.Mathlib.Numerals.{one-add}
use native.Mathlib.Omega.{arith}
use native.Mathlib.Decide.{ℕ_discrete, dec_lt}
use lib.Dec.{T, eqb, eqb→eq}
use lib.Bits.{bit_and, bit_or, differ, or_comm, or_lt, or_add_and, xor_lt, and_le_l, and_le_r, or_shifted_r}
use lib.Pow.{pow_pos, pow-lt, mod-pow-add}
use Rattle.search.proofs.Tests.{same, same_test, or_right, eq_test, and_is, not_is, stable}
use Rattle.sets.specs.Set.{Set, has, insert, single, union, without, below, Gives}
use Rattle.sets.proofs.Digits.{digit, at_place, digit_and, digit_or, digit-xor}
use Rattle.sets.proofs.Laws.{has-none, single-has, single-only, has-below, below-has, below-small}

-- ---- what each operation holds

pub has-union : (a b i : ℕ) → has (union a b) i ≡ (has a i || has b i)
unfolding union
has-union a b i =
    ap (λ (x : ℕ). eqb x 1) (digit_or a b i)
    ∙ at_place (λ x y. eqb (max x y) 1 ≡ (eqb x 1 || eqb y 1)) refl refl refl refl a b i

pub has_both : (a b i : ℕ) → has (bit_and a b) i ≡ (has a i && has b i)
has_both a b i =
    ap (λ (x : ℕ). eqb x 1) (digit_and a b i)
    ∙ at_place (λ x y. eqb (min x y) 1 ≡ (eqb x 1 && eqb y 1)) refl refl refl refl a b i

pub has-without : (a b i : ℕ) → has (without a b) i ≡ (has a i && not (has b i))
unfolding without
has-without a b i =
    ap (λ (x : ℕ). eqb x 1) (digit-xor a (bit_and a b) i ∙ ap (differ (digit a i)) (digit_and a b i))
    ∙ at_place (λ x y. eqb (differ x (min x y)) 1 ≡ (eqb x 1 && not (eqb y 1))) refl refl refl refl a b i

-- the same of facts
pub both_is : (a b i : ℕ) → T (has (bit_and a b) i) ↔ (T (has a i) × T (has b i))
both_is a b i = rw (has_both a b i) (and_is (has a i) (has b i) same same)

pub without_is : (a b i : ℕ) → T (has (without a b) i) ↔ (T (has a i) × (¬ T (has b i)))
without_is a b i = rw (has-without a b i) (and_is (has a i) (not (has b i)) same (not_is (has b i) same))

pub has-single : (t i : ℕ) → has (single t) i ≡ eqb i t
has-single t i = same_test _ _ (λ h. eq_test i t (single-only t i h)) (λ h. let e : i ≡ t = eqb→eq i t h in rw e (single-has t))

-- of a set that gives a number: that one, and what is left
pub gives_is : {m i left : ℕ} → Gives m i left → (t : ℕ) → T (has m t) ↔ ((t ≡ i) ⊎ T (has left t))
gives_is {m} {i} {left} g t = (λ h. go h (ℕ_discrete t i), back)
  where
    kept : T (has left t) ↔ (T (has m t) × (¬ T (has (single i) t)))
    kept = rw g.others (without_is m (single i) t)

    go : T (has m t) → Dec (t ≡ i) → (t ≡ i) ⊎ T (has left t)
    go h (yes e) = inl e
    go h (no n) = inr (kept.1 (h, λ x. n (single-only i t x)))

    back : (t ≡ i) ⊎ T (has left t) → T (has m t)
    back (inl e) = rw e g.held
    back (inr h) = (kept.0 h).0

-- what is left is above it
pub gives-left : {m i left : ℕ} → Gives m i left → (t : ℕ) → T (has left t) → i < t
gives-left {m} {i} {left} g t h = omega (arith, g.least t ((gives_is g t).1 (inr h)), other)
  where
    other : ¬ (t ≡ i)
    other e = ((without_is m (single i) t).0 (rw g.others at h)).1 (rw e (single-has i))

pub insert-union : (t m : ℕ) → insert t m ≡ union (single t) m
unfolding union
insert-union t m = or_comm m (single t)

pub has-insert-is : (t m i : ℕ) → has (insert t m) i ≡ (eqb i t || has m i)
has-insert-is t m i = ap (λ (x : Set). has x i) (insert-union t m) ∙ has-union (single t) m i ∙ ap (λ (b : Bool). b || has m i) (has-single t i)

-- ---- sets that hold the same numbers

same-digit : (a b i : ℕ) → has a i ≡ has b i → digit a i ≡ digit b i
same-digit = at_place (λ x y. eqb x 1 ≡ eqb y 1 → x ≡ y) (λ e. refl) (λ e. absurd (false≢true e)) (λ e. absurd (true≢false e)) (λ e. refl)

-- numbers with the same n lowest digits
same_low : (n a b : ℕ) → ((i : ℕ) → i < n → has a i ≡ has b i) → a % 2 ^ n ≡ b % 2 ^ n
same_low zero a b h = omega arith
same_low (suc n) a b h =
    rw (← one-add n, mod-pow-add a 1 n, mod-pow-add b 1 n, same-digit a b n (h n (omega arith)), same_low n a b (λ i l. h i (omega arith)))

same-below : (n a b : ℕ) → a < 2 ^ n → b < 2 ^ n → ((i : ℕ) → i < n → has a i ≡ has b i) → a ≡ b
same-below n a b l k h = sym (mod-eq_of_lt l) ∙ same_low n a b h ∙ mod-eq_of_lt k

-- two words
pub same-members : (a b : ℕ) → a < 2 ^ 64 → b < 2 ^ 64 → ((i : ℕ) → i < 64 → has a i ≡ has b i) → a ≡ b
same-members = same-below 64

pow-above : (n : ℕ) → n < 2 ^ n
pow-above zero = pow_pos 0
pow-above (suc n) = omega (arith, pow-above n, pow-suc 2 n)

-- two sets of any width
pub same-sets : (a b : ℕ) → ((i : ℕ) → has a i ≡ has b i) → a ≡ b
same-sets a b h = same-below (a + b) a b (omega (arith, pow-above (a + b))) (omega (arith, pow-above (a + b))) (λ i l. h i)

pub empty-is : (m : ℕ) → (m ≡ 0) ↔ ((i : ℕ) → ¬ T (has m i))
empty-is m = (λ e i t. has-none i (rw e at t), λ h. same-sets m 0 (λ i. same_test _ _ (λ t. absurd (h i t)) (λ t. absurd (has-none i t))))

-- one set is part of another
pub subset-is : (a b : ℕ) → (without a b ≡ 0) ↔ ((i : ℕ) → T (has a i) → T (has b i))
subset-is a b = (
  λ e i t. stable (has b i) (λ n. (empty-is (without a b)).0 e i ((without_is a b i).1 (t, n))),
  λ h. (empty-is (without a b)).1 (λ i t. let u = (without_is a b i).0 t in u.1 (h i u.0)),
)

pub below-is : (n m : ℕ) → (m ≡ below n) ↔ ((i : ℕ) → T (has m i) ↔ (i < n))
below-is n m = (
  λ e i. rw e (below-has n i, has-below n i),
  λ h. same-sets m (below n) (λ i. same_test _ _ (λ t. has-below n i ((h i).0 t)) (λ t. (h i).1 (below-has n i t))),
)

-- one number more
pub insert-below : (n : ℕ) → insert n (below n) ≡ below (suc n)
insert-below n =
    ap (bit_or (below n)) (sym (one-mul (single n))) ∙ or_shifted_r 1 n (below n) (below-small n) ∙ (omega (arith, pow-suc 2 n, pow_pos n))

-- ---- words

pub union-word : (a b : ℕ) → a < 2 ^ 64 → b < 2 ^ 64 → union a b < 2 ^ 64
unfolding union
union-word = or_lt 64

pub single-word : (i : ℕ) → i < 64 → single i < 2 ^ 64
single-word i l = pow-lt {j = 64} l

pub insert-word : (t m : ℕ) → t < 64 → m < 2 ^ 64 → insert t m < 2 ^ 64
insert-word t m l h = or_lt 64 m (single t) h (single-word t l)

pub without-word : (a b : ℕ) → a < 2 ^ 64 → without a b < 2 ^ 64
unfolding without
without-word a b l = xor_lt 64 a (bit_and a b) l (omega (arith, and_le_l a b))

-- a set of numbers below n is all of them exactly where it holds each
pub full_is : (n m : ℕ) → ((i : ℕ) → T (has m i) → i < n) → (m ≡ below n) ↔ ((i : ℕ) → i < n → T (has m i))
full_is n m h = (λ e i l. ((below-is n m).0 e i).1 l, λ f. (below-is n m).1 (λ i. (h i, f i)))

-- ---- a set that grows is a larger number

pub union-larger : (a b t : ℕ) → T (has b t) → ¬ T (has a t) → a < union a b
unfolding union
union-larger a b t h n = go (dec_lt a (union a b))
  where
    go : Dec (a < union a b) → a < union a b
    go (yes l) = l
    go (no x) =
        let e : union a b ≡ a = omega (arith, or_add_and a b, and_le_r a b) in
        absurd (n (subst (λ (y : ℕ). T (has y t)) e (subst T (sym (has-union a b t)) (or_right (has a t) (has b t) h))))
