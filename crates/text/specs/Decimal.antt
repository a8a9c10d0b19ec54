-- A number in decimal, as bytes of ASCII. Assumes nothing.
use Rattle.std.specs.Prelude.{ℕ, zero, suc, ◌+◌, ◌/◌, ◌%◌, ◌≤◌, ◌<◌, ◌≡◌, refl, List, [], ◌∷◌, ◌++◌}
use Rattle.std.proofs.Common.{sym, ap, arith, mod-eq_of_lt}
use Rattle.std.proofs.Math.Nat.{div-eq_of_lt}

-- the byte of a digit
abbrev pub digit : ℕ → ℕ
digit d = 48 + d

-- the digits of a number, the most significant first; none for 0. As much fuel as the number is enough.
digits_of : ℕ → ℕ → List ℕ
digits_of zero n = []
digits_of (suc fuel) zero = []
digits_of (suc fuel) (suc m) = digits_of fuel (suc m / 10) ++ (digit (suc m % 10) ∷ [])

-- the digits of a number, the most significant first: at least one, and no 0 in front
unfoldable pub decimal : ℕ → List ℕ
unfolding digits_of
decimal n = digits_of n (n / 10) ++ (digit (n % 10) ∷ [])

-- ---- nothing after this looks at the fuel

no-digits : (fuel : ℕ) → digits_of fuel 0 ≡ []
unfolding digits_of
no-digits zero = refl
no-digits (suc fuel) = refl

same_digits : (f g n : ℕ) → n ≤ f → n ≤ g → digits_of f n ≡ digits_of g n
unfolding digits_of
same_digits zero g zero p q = sym (no-digits g)
same_digits zero g (suc m) p q = absurd (omega arith)
same_digits (suc f) g zero p q = sym (no-digits g)
same_digits (suc f) zero (suc m) p q = absurd (omega arith)
same_digits (suc f) (suc g) (suc m) p q = ap (λ l. l ++ (digit (suc m % 10) ∷ [])) (same_digits f g (suc m / 10) (omega arith) (omega arith))

-- one digit
pub decimal-one : (n : ℕ) → n < 10 → decimal n ≡ digit n ∷ []
unfolding decimal
decimal-one n l = rw (div-eq_of_lt l, mod-eq_of_lt l, no-digits)

-- what stands in front of the last one
in-front : (n q : ℕ) → n / 10 ≡ q → 0 < q → digits_of n q ≡ decimal q
unfolding decimal digits_of
in-front n zero e l = absurd (omega arith)
in-front zero (suc m) e l = absurd (omega arith)
in-front (suc k) (suc m) e l = ap (λ f. f ++ (digit (suc m % 10) ∷ [])) (same_digits k (suc m) (suc m / 10) (omega arith) (omega arith))

-- more than one: those of a tenth, and the last
pub decimal-more : (n : ℕ) → 10 ≤ n → decimal n ≡ decimal (n / 10) ++ (digit (n % 10) ∷ [])
unfolding decimal
decimal-more n l = ap (λ f. f ++ (digit (n % 10) ∷ [])) (in-front n (n / 10) refl (omega arith))
