-- Loops over the numbers below a bound that pass those with nothing to do, and sets gathered on the way. Assumes nothing.
use Prim.Native.Nat.{ℕ, ◌+◌, ◌≤◌, ◌<◌}
use mathlib.Core.Path.{◌≡◌, subst}
use mathlib.Core.Logic.{◌⊎◌, inl, inr, ◌↔◌}
use native.Mathlib.Omega.{arith}
use native.Mathlib.Decide.{dec_lt, ℕ_discrete}
use lib.Dec.{T}
use Rattle.sets.specs.Set.{Set, has, union}
use Rattle.state.specs.Accesses.{rank}
use Rattle.state.specs.Keeps.{IsSet}
use Rattle.state.proofs.Sets.{is_set-as, is_set-none, is_set-union}

-- some number below n has A
abbrev pub SomeBelow : ℕ → (ℕ → Type 0) → Type 0
SomeBelow n A = (k : ℕ) × (k < n) × A k

-- no number from k on, below q, has A
module _ (A : ℕ → Type 0) {k q : ℕ} (l : k ≤ q) (none : (j : ℕ) → k ≤ j → j < q → ¬ A j) where
  pub below-passed : SomeBelow k A ↔ SomeBelow q A
  below-passed = (λ (j, m, x). (j, omega arith, x), λ (j, m, x). go j m x (dec_lt j k))
    where
      go : (j : ℕ) → j < q → A j → Dec (j < k) → SomeBelow k A
      go j m x (yes y) = (j, y, x)
      go j m x (no n) = absurd (none j (omega arith) m x)

  pub below-turn : SomeBelow (q + 1) A ↔ (SomeBelow k A ⊎ A q)
  below-turn = (λ (j, m, x). out j m x (ℕ_discrete j q), back)
    where
      out : (j : ℕ) → j < q + 1 → A j → Dec (j ≡ q) → SomeBelow k A ⊎ A q
      out j m x (yes e) = inr (subst A e x)
      out j m x (no n) = inl (below-passed.1 (j, omega arith, x))

      back : SomeBelow k A ⊎ A q → SomeBelow (q + 1) A
      back (inl (j, m, x)) = (j, omega arith, x)
      back (inr x) = (q, omega arith, x)

-- ---- a set gathered from numbers, where number j gives each a with A j a

abbrev pub From : (ℕ → ℕ → Type 0) → ℕ → ℕ → Type 0
From A k a = SomeBelow k (λ j. A j a)

module _ (A : ℕ → ℕ → Type 0) where
  pub from-none : IsSet 0 (From A 0)
  from-none = is_set-none (λ a (k, l, x). absurd (omega arith))

  module _ {k q : ℕ} (all : Set) (h : IsSet all (From A k)) (l : k ≤ q) (none : (j : ℕ) → k ≤ j → j < q → (a : ℕ) → ¬ A j a) where
    pub from-turn : (row : Set) {after : Set} → IsSet row (A q) → after ≡ union all row → IsSet after (From A (q + 1))
    from-turn row is e = rw e (is_set-as (union all row) (λ a. turned a) (is_set-union all row h is))
      where
        turned : (a : ℕ) → (From A k a ⊎ A q a) ↔ From A (q + 1) a
        turned a = let (x, y) = below-turn (λ j. A j a) l (λ j m o. none j m o a) in (y, x)

    pub from-passed : IsSet all (From A q)
    from-passed = is_set-as all (λ a. below-passed (λ j. A j a) l (λ j m o. none j m o a)) h

  -- one number after the other
  pub key_more : {k : ℕ} (all : Set) → IsSet all (From A k) → (row : Set) {after : Set} → IsSet row (A k) → after ≡ union all row → IsSet after (From A (k + 1))
  key_more all h = from-turn all h (omega arith) (λ j l m a x. omega arith)

-- ---- the rows of the keys that have an operation of one access, gathered

abbrev pub RowWith : (ℕ → Set) → Set → ℕ → ℕ → ℕ → Type 0
RowWith row ranks access k a = T (has ranks (rank access k)) × T (has (row k) a)

module _ (row : ℕ → Set) (ranks : Set) (access : ℕ) {k q : ℕ} (all : Set) (h : IsSet all (From (RowWith row ranks access) k)) (l : k ≤ q)
    (none : (j : ℕ) → k ≤ j → j < q → ¬ T (has ranks (rank access j))) where
  pub keys-turn : T (has ranks (rank access q)) → {after : Set} → after ≡ union all (row q) → IsSet after (From (RowWith row ranks access) (q + 1))
  keys-turn t = from-turn (RowWith row ranks access) all h l (λ j m o a (x, _). none j m o x) (row q) (λ a. (λ x. (t, x), λ (_, x). x))

  pub keys-passed : IsSet all (From (RowWith row ranks access) q)
  keys-passed = from-passed (RowWith row ranks access) all h l (λ j m o a (x, _). none j m o x)
