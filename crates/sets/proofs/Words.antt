-- What the code's operations on words compute, as sets. Assumes nothing.
use mathlib.Core.Path.{◌≡◌, refl, sym, ap, ap₂, ◌∙◌}
use mathlib.Core.Bool.{◌&&◌, not}
use Prim.Native.Nat.{ℕ, suc, ◌+◌, ◌-◌, ◌*◌, ◌/◌, ◌^◌, ◌<◌, min}
use native.Mathlib.Nat.{add-zero, mod-eq_of_lt, mod_self, pow-suc}
use native.Mathlib.Omega.{arith}
use lib.Dec.{eqb, eqb→eq}
use lib.Bits.{bit_and, bit_xor, differ, and_lt, and_mask, and_self, and_zero_r, and_block, xor_self, xor_zero_r, xor_block, xor_add_and}
use lib.Pow.{pow_pos, split, ones_sub-lt}
use Rattle.sets.specs.Set.{single, without, below, lowest}
use Rattle.sets.proofs.Digits.{digit, digit_and, digit-xor, at_place}
use Rattle.sets.proofs.Laws.{has-below, lowest-low}
use Rattle.sets.proofs.Algebra.{has-without, same-members, without-word}

-- !b flips each digit
complement : (b : ℕ) → b < 2 ^ 64 → below 64 - b ≡ bit_xor b (below 64)
complement b l = omega (arith, xor_add_and b (below 64), and_mask b 64, mod-eq_of_lt l)

-- a & !b
pub and-not : (a b : ℕ) → a < 2 ^ 64 → b < 2 ^ 64 → bit_and a (below 64 - b) ≡ without a b
and-not a b l h =
    same-members _ _ (and_lt 64 a (below 64 - b) l (ones_sub-lt 64 b)) (without-word a b l) (λ i k.
    ap (λ (x : ℕ). eqb x 1) (ap (λ (x : ℕ). digit (bit_and a x) i) (complement b h) ∙ digit_and a (bit_xor b (below 64)) i
    ∙ ap (min (digit a i)) (digit-xor b (below 64) i ∙ ap (differ (digit b i)) (eqb→eq _ 1 (has-below 64 i k))))
    ∙ at_place (λ x y. eqb (min x (differ y 1)) 1 ≡ (eqb x 1 && not (eqb y 1))) refl refl refl refl a b i
    ∙ sym (has-without a b i))

-- m & (m - 1), and m less its lowest number, where that is t: what stands above place t
module _ (q t : ℕ) where
  small : 2 ^ t < 2 ^ suc t
  small = omega (arith, pow_pos t, pow-suc 2 t)

  and_above : bit_and (q * 2 ^ suc t + 2 ^ t) (q * 2 ^ suc t + below t) ≡ q * 2 ^ suc t
  and_above =
      and_block (suc t) q q (2 ^ t) (below t) small (omega (arith, small))
      ∙ ap₂ (λ (x y : ℕ). x * 2 ^ suc t + y) (and_self q) (and_mask (2 ^ t) t ∙ mod_self (2 ^ t)) ∙ add-zero _

  without-above : without (q * 2 ^ suc t + 2 ^ t) (single t) ≡ q * 2 ^ suc t
  unfolding without
  without-above =
      ap (bit_xor (q * 2 ^ suc t + 2 ^ t))
      (ap (bit_and (q * 2 ^ suc t + 2 ^ t)) alone ∙ and_block (suc t) q 0 (2 ^ t) (2 ^ t) small small
      ∙ ap₂ (λ (x y : ℕ). x * 2 ^ suc t + y) (and_zero_r q) (and_self (2 ^ t)))
      ∙ xor_block (suc t) q 0 (2 ^ t) (2 ^ t) small small
      ∙ ap₂ (λ (x y : ℕ). x * 2 ^ suc t + y) (xor_zero_r q) (xor_self (2 ^ t)) ∙ add-zero _
    where
      alone : single t ≡ 0 * 2 ^ suc t + 2 ^ t
      alone = omega arith

pub and-pred : (m : ℕ) → 0 < m → m < 2 ^ 64 → bit_and m (m - 1) ≡ without m (single (lowest m))
and-pred m p l = ap₂ bit_and above less_one ∙ and_above q t ∙ sym (without-above q t) ∙ ap (λ (x : ℕ). without x (single t)) (sym above)
  where
    t : ℕ
    t = lowest m

    q : ℕ
    q = m / 2 ^ suc t

    above : m ≡ q * 2 ^ suc t + 2 ^ t
    above = sym (split m (suc t)) ∙ ap (λ (x : ℕ). q * 2 ^ suc t + x) (lowest-low m p l)

    less_one : m - 1 ≡ q * 2 ^ suc t + below t
    less_one = omega (arith, above, pow_pos t)
