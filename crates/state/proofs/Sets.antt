-- Words as the sets that they are: what union, insert and the like make of the sets of the numbers with P. Assumes nothing.
use Prim.Native.Nat.{ℕ, ◌^◌, ◌≤◌, ◌<◌}
use mathlib.Core.Path.{◌≡◌, refl, sym, ◌∙◌, subst}
use mathlib.Core.Logic.{◌⊎◌, inl, inr, ◌↔◌}
use native.Mathlib.Omega.{arith}
use native.Mathlib.Decide.{dec_lt}
use lib.Dec.{T, eqb, lit<}
use lib.Pow.{pow_pos}
use lib.Count.{count_leading_zeros}
use Rattle.search.proofs.Tests.{both, or_is, eq_is}
use Rattle.sets.specs.Set.{has, single, insert, union, without, highest}
use Rattle.sets.proofs.Laws.{has-none, has-large, insert-has, has-insert, insert-self, has-highest, highest-most}
use Rattle.sets.proofs.Algebra.{has-union, without_is, has-single, has-insert-is, insert-word}
use Rattle.state.specs.Keeps.{IsSet}

-- the same set, said otherwise
pub is_set-as : {P Q : ℕ → Type 0} (m : ℕ) → ((t : ℕ) → P t ↔ Q t) → IsSet m P → IsSet m Q
is_set-as m e h t = both (h t) (e t)

pub is_set-none : {P : ℕ → Type 0} → ((t : ℕ) → ¬ P t) → IsSet 0 P
is_set-none n t = (λ x. absurd (has-none t x), λ p. absurd (n t p))

pub is_set-union : {P Q : ℕ → Type 0} (a b : ℕ) → IsSet a P → IsSet b Q → IsSet (union a b) (λ t. P t ⊎ Q t)
is_set-union {P} {Q} a b p q t = subst (λ x. T x ↔ (P t ⊎ Q t)) (sym (has-union a b t)) (or_is (has a t) (has b t) (p t) (q t))

pub is_set-single : (i : ℕ) → IsSet (single i) (λ t. t ≡ i)
is_set-single i t = subst (λ x. T x ↔ (t ≡ i)) (sym (has-single i t)) (eq_is t i)

pub is_set-insert : {P : ℕ → Type 0} (i m : ℕ) → IsSet m P → IsSet (insert i m) (λ t. (t ≡ i) ⊎ P t)
is_set-insert {P} i m p t = subst (λ x. T x ↔ ((t ≡ i) ⊎ P t)) (sym (has-insert-is i m t)) (or_is (eqb t i) (has m t) (eq_is t i) (p t))

pub is_set-without : {P Q : ℕ → Type 0} (a b : ℕ) → IsSet a P → IsSet b Q → IsSet (without a b) (λ t. P t × (¬ Q t))
is_set-without a b p q t = both (without_is a b t) (λ (x, n). ((p t).0 x, λ y. n ((q t).1 y)), λ (x, n). ((p t).1 x, λ y. n ((q t).0 y)))

-- ---- the newest version in a mask

highest-none : highest 0 ≡ 0
unfolding highest count_leading_zeros
highest-none = refl

highest-first : highest 1 ≡ 0
unfolding highest count_leading_zeros
highest-first = refl

pub opened_some : (m : ℕ) → 0 < insert 0 m
opened_some m = let l : 2 ^ 0 ≤ insert 0 m = has-large (insert 0 m) 0 (insert-self 0 m) in omega (arith, pow_pos 0)

-- version 0 is the newest where no other is
pub highest-opened : (m : ℕ) → m < 2 ^ 64 → highest (insert 0 m) ≡ highest m
highest-opened m l = go (dec_lt 0 m)
  where
    go : Dec (0 < m) → highest (insert 0 m) ≡ highest m
    go (no n) = let e : m ≡ 0 = omega arith in rw e (highest-first ∙ sym highest-none)
    go (yes p) = same (insert-has 0 m (highest (insert 0 m)) (has-highest (insert 0 m) (opened_some m) (insert-word 0 m (lit< tt) l)))
      where
        most : highest m ≤ highest (insert 0 m)
        most = highest-most (insert 0 m) (opened_some m) (insert-word 0 m (lit< tt) l) (highest m) (has-insert 0 m (highest m) (has-highest m p l))

        same : T (has m (highest (insert 0 m))) ⊎ (highest (insert 0 m) ≡ 0) → highest (insert 0 m) ≡ highest m
        same (inl t) = omega (arith, most, highest-most m p l (highest (insert 0 m)) t)
        same (inr e) = omega (arith, most, e)
