-- Tests as the code makes them. Assumes nothing.
use Rattle.std.proofs.Common.{◌≡◌, ℕ, ◌+◌, ◌<◌, Bool, true, false, not, T, ◌↔◌, sym, ap, ◌∙◌, subst, true≢false, arith, below_more}
use lib.Bits.{bit_or, bit_xor, or_add_and, xor_add_and, xor_self, and_le_l, and_le_r, or_zero_l}
use Rattle.search.proofs.Tests.{T_true, true-T}
use Rattle.sets.specs.Set.{Set, has, union}

-- `if f(..)`, where f answers b
pub taken : {r b : Bool} → r ≡ true → r ≡ b → T b
taken e q = true-T _ (sym q ∙ e)

pub left : {r b : Bool} → r ≡ false → r ≡ b → ¬ T b
left e q t = true≢false (sym (T_true _ t) ∙ sym q ∙ e)

-- `if !f(..)`
pub not_taken : {r b : Bool} → not r ≡ true → r ≡ b → ¬ T b
not_taken e q t = true≢false (sym e ∙ ap not (q ∙ T_true _ t))

pub not_left : {r b : Bool} → not r ≡ false → r ≡ b → T b
not_left {r} e q = go r e q
  where
    go : (r : Bool) {b : Bool} → not r ≡ false → r ≡ b → T b
    go true e q = true-T _ (sym q)
    go false e q = absurd (true≢false e)

-- a set said otherwise
pub has-as : {a b : ℕ} (i : ℕ) → a ≡ b → T (has a i) → T (has b i)
has-as i e t = subst (λ (m : ℕ). T (has m i)) e t

-- ---- words that are 0

-- `a ^ b` is 0 where the words are equal
pub xor-zero : (a b : ℕ) → (bit_xor a b ≡ 0) ↔ (a ≡ b)
xor-zero a b = (
  λ e. omega (arith, xor_add_and a b, and_le_l a b, and_le_r a b),
  λ e. ap (λ (x : ℕ). bit_xor x b) e ∙ xor_self b,
)

-- a union is 0 where both sets are
pub union-zero : (a b : Set) → (union a b ≡ 0) ↔ ((a ≡ 0) × (b ≡ 0))
unfolding union
union-zero a b = (
  λ e. (omega (arith, or_add_and a b, and_le_l a b, and_le_r a b), omega (arith, or_add_and a b, and_le_l a b, and_le_r a b)),
  λ (e, f). ap (λ (x : ℕ). bit_or x b) e ∙ or_zero_l b ∙ f,
)

-- a loop over keys that gathers what is not as P says: where nothing is gathered, P holds at the keys passed
pub none_more : (P : ℕ → Type 0) (k : ℕ) {all word next : Set} → (all ≡ 0 → (l : ℕ) → l < k → P l) → (word ≡ 0 → P k) → next ≡ union all word
    → next ≡ 0 → (l : ℕ) → l < k + 1 → P l
none_more P k {all} {word} h w e z = let p = (union-zero all word).0 (sym e ∙ z) in below_more _ _ (h p.0) (w p.1)
