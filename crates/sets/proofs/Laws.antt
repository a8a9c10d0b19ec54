-- Laws of sets in a word. Callers reach `has`, `insert`, `below`, `highest`, `lowest` and `size` through these. Assumes nothing.
use mathlib.Core.Path.{◌≡◌, refl, sym, ap, ◌∙◌}
use mathlib.Core.Logic.{◌⊎◌, inl, inr}
use Prim.Native.Nat.{ℕ, zero, suc, ◌+◌, ◌-◌, ◌*◌, ◌/◌, ◌%◌, ◌^◌, ◌≤◌, ◌<◌, max}
use native.Mathlib.Nat.{div-eq_of_lt, div_self, mul-div_cancel, div-eq_of_lt-le, pow-suc}
use native.Mathlib.Numerals.{add-one}
use native.Mathlib.Omega.{arith}
use native.Mathlib.Decide.{dec_lt, dec_le}
use lib.Dec.{T, eqb, eqb→eq}
use lib.Bits.{and_mask}
use lib.Pow.{mod-pow-add, pow_pos, pow-lt, pow-add, pow_mono, ones_split, ones_lt, high}
use lib.Count.{count_leading_zeros, leading_top, count_trailing_zeros, under, ones-le}
use Rattle.search.proofs.Tests.{eq_test}
use Rattle.sets.proofs.Digits.{digit, digit-small, digit_and, digit_or}
use Rattle.sets.specs.Set.{has, insert, single, without, below, highest, lowest, size, Gives}

-- ---- single numbers

-- the empty set holds nothing
pub has-none : (i : ℕ) → ¬ T (has 0 i)
has-none i h = let e : digit 0 i ≡ 1 = eqb→eq _ 1 h in let z : 0 / 2 ^ i ≡ 0 = div-eq_of_lt (pow_pos i) in omega arith

-- what a set holds makes it at least so large
pub has-large : (m i : ℕ) → T (has m i) → 2 ^ i ≤ m
has-large m i h = go (dec_le (2 ^ i) m)
  where
    go : Dec (2 ^ i ≤ m) → 2 ^ i ≤ m
    go (yes l) = l
    go (no n) =
        let e : digit m i ≡ 1 = eqb→eq _ 1 h in
        let z : m / 2 ^ i ≡ 0 = div-eq_of_lt (omega arith) in
        omega arith

-- a word holds numbers below its width only
pub has-lt : (n m i : ℕ) → m < 2 ^ n → T (has m i) → i < n
has-lt n m i l h = go (dec_lt i n)
  where
    go : Dec (i < n) → i < n
    go (yes x) = x
    go (no x) = let a : 2 ^ i ≤ m = has-large m i h in let b : 2 ^ n ≤ 2 ^ i = pow_mono (omega arith) in absurd (omega arith)

-- a single number is held, and no other
pub single-has : (t : ℕ) → T (has (single t) t)
single-has t = let e : 2 ^ t / 2 ^ t ≡ 1 = div_self (pow_pos t) in eq_test (digit (2 ^ t) t) 1 (omega arith)

pub single-only : (t i : ℕ) → T (has (single t) i) → i ≡ t
single-only t i h = go (dec_lt i t) (dec_lt t i)
  where
    d : digit (2 ^ t) i ≡ 1
    d = eqb→eq _ 1 h

    go : Dec (i < t) → Dec (t < i) → i ≡ t
    go (no n) (no m) = omega arith
    go (no n) (yes m) = let z : 2 ^ t / 2 ^ i ≡ 0 = div-eq_of_lt (pow-lt m) in omega (arith, d)
    go (yes m) x =
        let s : t ≡ suc (t - suc i) + i = omega arith in
        let e : 2 ^ t ≡ 2 ^ (t - suc i) * 2 * 2 ^ i = ap (λ (n : ℕ). 2 ^ n) s ∙ pow-add 2 (suc (t - suc i)) i ∙ ap (λ (n : ℕ). n * 2 ^ i) (pow-suc 2 (t - suc i)) in
        let q : 2 ^ t / 2 ^ i ≡ 2 ^ (t - suc i) * 2 = rw e (mul-div_cancel _ (pow_pos i)) in
        omega (arith, d)

-- ---- a number put into a set

pub insert-has : (t m i : ℕ) → T (has (insert t m) i) → T (has m i) ⊎ (i ≡ t)
insert-has t m i h = go (digit m i) refl
  where
    d : max (digit m i) (digit (2 ^ t) i) ≡ 1
    d = sym (digit_or m (2 ^ t) i) ∙ eqb→eq _ 1 h

    go : (x : ℕ) → digit m i ≡ x → T (has m i) ⊎ (i ≡ t)
    go zero e = inr (single-only t i (eq_test (digit (2 ^ t) i) 1 (omega (arith, d))))
    go (suc x) e = inl (eq_test (digit m i) 1 (omega (arith, digit-small m i)))

pub has-insert : (t m i : ℕ) → T (has m i) → T (has (insert t m) i)
has-insert t m i h = eq_test _ 1 (digit_or m (2 ^ t) i ∙ (let e : digit m i ≡ 1 = eqb→eq _ 1 h in omega (arith, digit-small (2 ^ t) i)))

-- the number itself is in it then
pub insert-self : (t m : ℕ) → T (has (insert t m) t)
insert-self t m = eq_test _ 1 (digit_or m (2 ^ t) t ∙ (let e : digit (2 ^ t) t ≡ 1 = eqb→eq _ 1 (single-has t) in omega (arith, digit-small m t)))

-- ---- all numbers below n

pub has-below : (n i : ℕ) → i < n → T (has (below n) i)
has-below n i l = eq_test (digit (2 ^ n - 1) i) 1 e
  where
    -- the ones above place i, and those below it
    q : 2 ^ n - 1 ≡ (2 ^ (n - i) - 1) * 2 ^ i + (2 ^ i - 1)
    q = ap (λ (x : ℕ). 2 ^ x - 1) (omega arith) ∙ ones_split (n - i) i

    h : (2 ^ n - 1) / 2 ^ i ≡ 2 ^ (n - i) - 1
    h = rw q (high _ i (ones_lt i))

    p : 2 ^ (n - i) ≡ 2 ^ (n - suc i) * 2
    p = ap (λ (x : ℕ). 2 ^ x) (omega arith) ∙ pow-suc 2 (n - suc i)

    e : digit (2 ^ n - 1) i ≡ 1
    e = rw h (omega (arith, p, pow_pos (n - suc i)))

pub below-small : (n : ℕ) → below n < 2 ^ n
below-small n = omega (arith, pow_pos n)

pub below-has : (n i : ℕ) → T (has (below n) i) → i < n
below-has n i t = has-lt n (below n) i (below-small n) t

-- a set of numbers below n is a word where n is at most the width
pub below_word : (n : ℕ) → n ≤ 64 → below n < 2 ^ 64
below_word n l = let h : 2 ^ n ≤ 2 ^ 64 = pow_mono {j = 64} l in omega (arith, below-small n)

-- ---- the highest number

module _ (m : ℕ) (p : 0 < m) (l : m < 2 ^ 64) where
  top : (j : ℕ) × (count_leading_zeros 64 m + suc j ≡ 64) × (2 ^ j ≤ m) × (m < 2 ^ suc j)
  top = leading_top 64 m p l

  highest-top : highest m ≡ top.0
  unfolding highest
  highest-top = omega (arith, top.1)

  pub has-highest : T (has m (highest m))
  has-highest =
      let h : m < 2 ^ suc top.0 = top.3 in
      let e : 2 ^ suc top.0 ≡ 2 ^ top.0 * 2 = pow-suc 2 top.0 in
      let q : m / 2 ^ top.0 ≡ 1 = div-eq_of_lt-le (2 ^ top.0) (omega (arith, top.2)) (omega arith) in
      rw highest-top (eq_test (digit m top.0) 1 (omega arith))

  pub highest-most : (j : ℕ) → T (has m j) → j ≤ highest m
  highest-most j h = go (dec_le j (highest m))
    where
      go : Dec (j ≤ highest m) → j ≤ highest m
      go (yes x) = x
      go (no n) =
          let f : 2 ^ j ≤ m = has-large m j h in
          let u : 2 ^ suc top.0 ≤ 2 ^ j = pow_mono (omega (arith, highest-top)) in
          omega (arith, top.3)

-- ---- the lowest number

-- the n lowest digits hold what the set holds below n
has-low : (n m i : ℕ) → i < n → has (m % 2 ^ n) i ≡ has m i
has-low n m i l =
    let e : digit (below n) i ≡ 1 = eqb→eq _ 1 (has-below n i l) in
    let d : digit (m % 2 ^ n) i ≡ digit m i = rw (← and_mask m n) (omega (arith, digit_and m (below n) i, digit-small m i)) in
    ap (λ (x : ℕ). eqb x 1) d

-- the zeros below the lowest digit that is set, and that digit
trailing-low : (k m : ℕ) → 0 < m → m < 2 ^ k → m % 2 ^ suc (count_trailing_zeros k m) ≡ 2 ^ count_trailing_zeros k m
unfolding count_trailing_zeros
trailing-low zero m p l = absurd (omega arith)
trailing-low (suc k) m p l = go (m % 2) refl (λ e. trailing-low k (m / 2) (omega arith) (let q = pow-suc 2 k in omega arith))
  where
    t : ℕ
    t = count_trailing_zeros k (m / 2)

    go : (r : ℕ) → m % 2 ≡ r → (m % 2 ≡ 0 → m / 2 % 2 ^ suc t ≡ 2 ^ t) → m % 2 ^ suc (under r t) ≡ 2 ^ under r t
    go zero e h =
        let s : m % 2 ^ (suc t + 1) ≡ m / 2 % 2 ^ suc t * 2 + m % 2 = mod-pow-add m (suc t) 1 in
        ap (λ (x : ℕ). m % 2 ^ x) (sym (add-one (suc t))) ∙ (omega (arith, s, h e, pow-suc 2 t))
    go (suc r) e h = omega arith

module _ (m : ℕ) (p : 0 < m) (l : m < 2 ^ 64) where
  -- up to its lowest number a set is that number alone
  pub lowest-low : m % 2 ^ suc (lowest m) ≡ single (lowest m)
  unfolding lowest
  lowest-low = trailing-low 64 m p l

  has-up-to : (i : ℕ) → i ≤ lowest m → has m i ≡ has (single (lowest m)) i
  has-up-to i h = sym (has-low (suc (lowest m)) m i (omega arith)) ∙ ap (λ (x : ℕ). has x i) lowest-low

  pub has-lowest : T (has m (lowest m))
  has-lowest = rw (has-up-to (lowest m) (omega arith)) (single-has (lowest m))

  pub lowest-least : (j : ℕ) → T (has m j) → lowest m ≤ j
  lowest-least j h = go (dec_le j (lowest m))
    where
      go : Dec (j ≤ lowest m) → lowest m ≤ j
      go (yes x) = let e : j ≡ lowest m = single-only (lowest m) j (rw (has-up-to j x) at h) in omega arith
      go (no n) = omega arith

  pub lowest-word : lowest m < 64
  lowest-word = has-lt 64 m (lowest m) l has-lowest

  pub gives-lowest : Gives m (lowest m) (without m (single (lowest m)))
  gives-lowest = record { held = has-lowest; least = lowest-least; bound = lowest-word; others = refl }

-- ---- how many

pub size_word : (m : ℕ) → m < 2 ^ 64 → size m ≤ 64
unfolding size
size_word = ones-le 64
