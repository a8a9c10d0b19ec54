-- The binary digit that `has` tests, and what the operations on words make of it. Assumes nothing.
use mathlib.Core.Path.{◌≡◌}
use Prim.Native.Nat.{ℕ, zero, suc, ◌+◌, ◌*◌, ◌/◌, ◌%◌, ◌^◌, ◌<◌, min, max}
use native.Mathlib.Omega.{arith}
use lib.Dec.{lit<}
use lib.Arith.{digits_mod}
use lib.Bits.{bit_and, bit_or, bit_xor, differ, and_shr, or_shr, xor_shr, and_step, or_step, xor_step}
use Rattle.sets.specs.Set.{Set}

abbrev pub digit : Set → ℕ → ℕ
digit m i = m / 2 ^ i % 2

pub digit-small : (m i : ℕ) → digit m i < 2
digit-small m i = omega arith

-- what holds of 0 and of 1 holds of each digit
by-digit : (P : ℕ → Type 0) → P 0 → P 1 → (x : ℕ) → x < 2 → P x
by-digit P a b zero l = a
by-digit P a b (suc zero) l = b
by-digit P a b (suc (suc x)) l = absurd (omega arith)

-- and of two digits
by_digits : (P : ℕ → ℕ → Type 0) → P 0 0 → P 0 1 → P 1 0 → P 1 1 → (x y : ℕ) → x < 2 → y < 2 → P x y
by_digits P a b c d x y l h = by-digit (λ z. P z y) (by-digit (P 0) a b y h) (by-digit (P 1) c d y h) x l

-- and of the digits at one place of two sets
pub at_place : (P : ℕ → ℕ → Type 0) → P 0 0 → P 0 1 → P 1 0 → P 1 1 → (a b i : ℕ) → P (digit a i) (digit b i)
at_place P x y z w a b i = by_digits P x y z w (digit a i) (digit b i) (digit-small a i) (digit-small b i)

-- an operation that works digit by digit
module _ (op f : ℕ → ℕ → ℕ) (shr : (a b k : ℕ) → op a b / 2 ^ k ≡ op (a / 2 ^ k) (b / 2 ^ k))
    (step : (a b : ℕ) → op a b ≡ op (a / 2) (b / 2) * 2 + f (a % 2) (b % 2)) (small : (x y : ℕ) → x < 2 → y < 2 → f x y < 2) where
  digit-of : (a b i : ℕ) → digit (op a b) i ≡ f (digit a i) (digit b i)
  digit-of a b i =
      rw (shr a b i, step (a / 2 ^ i) (b / 2 ^ i)) (digits_mod _ (small _ _ (digit-small a i) (digit-small b i)))

pub digit_and : (a b i : ℕ) → digit (bit_and a b) i ≡ min (digit a i) (digit b i)
digit_and = digit-of bit_and min and_shr and_step (λ x y l h. omega arith)

pub digit_or : (a b i : ℕ) → digit (bit_or a b) i ≡ max (digit a i) (digit b i)
digit_or = digit-of bit_or max or_shr or_step (λ x y l h. omega arith)

pub digit-xor : (a b i : ℕ) → digit (bit_xor a b) i ≡ differ (digit a i) (digit b i)
digit-xor = digit-of bit_xor differ xor_shr xor_step (by_digits (λ x y. differ x y < 2) (lit< tt) (lit< tt) (lit< tt) (lit< tt))
