-- How many digits a number has. Assumes nothing.
use Prim.Native.Nat.{ℕ, zero, suc, ◌+◌, ◌/◌, ◌%◌, ◌^◌, ◌≤◌, ◌<◌}
use mathlib.Core.Path.{◌≡◌, refl, ap, ◌∙◌}
use mathlib.Core.Logic.{◌⊎◌, inl, inr, ⊎_elim}
use mathlib.Core.List.{[], ◌∷◌}
use native.Mathlib.Omega.{arith}
use native.Mathlib.Nat.{pow-suc}
use native.Mathlib.Decide.{dec_lt}
use lib.ListN.{length, length-append}
use Rattle.text.specs.Ascii.{ascii}
use Rattle.text.specs.Decimal.{digit, decimal, decimal-one, decimal-more}
use Rattle.text.specs.Put.{most_digits}

pub length-one : (n : ℕ) → n < 10 → length (decimal n) ≡ 1
length-one n l = ap length (decimal-one n l)

pub length_more : (n : ℕ) → 10 ≤ n → length (decimal n) ≡ length (decimal (n / 10)) + 1
length_more n l = ap length (decimal-more n l) ∙ length-append (decimal (n / 10)) (digit (n % 10) ∷ [])

one-or-more : (n : ℕ) → (n < 10) ⊎ (10 ≤ n)
one-or-more n = elim (dec_lt n 10) [ yes l ↦ inl l | no h ↦ inr (omega arith) ]

-- a number below 10 ^ k has at most k digits
pub length-decimal : (k n : ℕ) → n < 10 ^ suc k → length (decimal n) ≤ suc k
length-decimal zero n l = omega (arith, length-one n (omega arith))
length-decimal (suc k) n l =
    ⊎_elim (λ one. omega (arith, length-one n one))
    (λ more. let p = pow-suc 10 (suc k) in omega (arith, length_more n more, length-decimal k (n / 10) (omega arith)))
    (one-or-more n)

-- and one of 64 bits at most 20
pub length-word : (n : ℕ) → n < 2 ^ 64 → length (decimal n) ≤ most_digits
length-word n l = length-decimal 19 n (omega arith)

-- ---- examples

digits-of-0 : decimal 0 ≡ ascii "0"
unfolding decimal
digits-of-0 = refl

digits-of-65536 : decimal 65536 ≡ ascii "65536"
unfolding decimal
digits-of-65536 = refl
