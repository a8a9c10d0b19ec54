-- A loop over the versions of the keys, one key after the other: what some version that was passed has, when the loop is at version i of key k. Assumes nothing.
use Prim.Native.Nat.{ℕ, ◌+◌, ◌≤◌, ◌<◌}
use mathlib.Core.Path.{◌≡◌, refl, subst, subst₂}
use mathlib.Core.Logic.{◌⊎◌, inl, inr, ◌↔◌}
use mathlib.Core.List.{List}
use native.Mathlib.Omega.{arith}
use native.Mathlib.Decide.{ℕ_discrete, dec_lt}
use Rattle.sets.specs.Set.{Set, union}
use Rattle.state.specs.Keeps.{IsSet}
use Rattle.state.proofs.Sets.{is_set-as, is_set-none, is_set-union}
use Rattle.trying.specs.Recorded.{versions_of, Exists}

abbrev pub Passed : ℕ → ℕ → ℕ → ℕ → Type 0
Passed k i l j = (l < k) ⊎ ((l ≡ k) × (j < i))

-- some version that exists has A
abbrev pub Some : List ℕ → ℕ → (ℕ → ℕ → Type 0) → Type 0
Some keys n A = (l : ℕ) × (j : ℕ) × Exists keys n l j × A l j

-- and some that was passed
abbrev pub SomePassed : List ℕ → ℕ → (ℕ → ℕ → Type 0) → ℕ → ℕ → Type 0
SomePassed keys n A k i = (l : ℕ) × (j : ℕ) × Passed k i l j × (Exists keys n l j × A l j)

module _ (keys : List ℕ) (n : ℕ) (A : ℕ → ℕ → Type 0) where
  pub passed_none : ¬ SomePassed keys n A 0 0
  passed_none (l, j, inl m, _) = omega arith
  passed_none (l, j, inr (_, m), _) = omega arith

  -- one version more
  pub passed-turn : (k i : ℕ) → k < n → i < versions_of keys k → SomePassed keys n A k (i + 1) ↔ (SomePassed keys n A k i ⊎ A k i)
  passed-turn k i b c = (out, back)
    where
      here : (l j : ℕ) → l ≡ k → j < i + 1 → Exists keys n l j × A l j → Dec (j ≡ i) → SomePassed keys n A k i ⊎ A k i
      here l j e m x (yes d) = inr (subst₂ A e d x.1)
      here l j e m x (no d) = inl (l, j, inr (e, omega arith), x)

      out : SomePassed keys n A k (i + 1) → SomePassed keys n A k i ⊎ A k i
      out (l, j, inl m, x) = inl (l, j, inl m, x)
      out (l, j, inr (e, m), x) = here l j e m x (ℕ_discrete j i)

      back : SomePassed keys n A k i ⊎ A k i → SomePassed keys n A k (i + 1)
      back (inl (l, j, inl m, x)) = (l, j, inl m, x)
      back (inl (l, j, inr (e, m), x)) = (l, j, inr (e, omega arith), x)
      back (inr x) = (k, i, inr (refl, omega arith), ((b, c), x))

  -- a key has no more versions
  pub passed-key : (k i : ℕ) → versions_of keys k ≤ i → SomePassed keys n A k i ↔ SomePassed keys n A (k + 1) 0
  passed-key k i c = (out, λ (l, j, p, x). back l j p x (dec_lt l k))
    where
      out : SomePassed keys n A k i → SomePassed keys n A (k + 1) 0
      out (l, j, inl m, x) = (l, j, inl (omega arith), x)
      out (l, j, inr (e, m), x) = (l, j, inl (omega arith), x)

      fewer : (l j : ℕ) → l ≡ k → j < versions_of keys l → j < i
      fewer l j e m = let z : j < versions_of keys k = subst (λ (q : ℕ). j < versions_of keys q) e m in omega arith

      back : (l j : ℕ) → Passed (k + 1) 0 l j → Exists keys n l j × A l j → Dec (l < k) → SomePassed keys n A k i
      back l j p x (yes m) = (l, j, inl m, x)
      back l j (inl m) x (no d) = let e : l ≡ k = omega arith in (l, j, inr (e, fewer l j e x.0.1), x)
      back l j (inr (_, m)) x (no d) = absurd (omega arith)

  -- no more keys
  pub passed-all : (k i : ℕ) → n ≤ k → SomePassed keys n A k i ↔ Some keys n A
  passed-all k i m = (λ (l, j, _, x). (l, j, x.0, x.1), λ (l, j, x, a). (l, j, inl (let b : l < n = x.0 in omega arith), (x, a)))

-- ---- a set gathered on the way, where version j of key l gives each t with C l j t

abbrev pub From : List ℕ → ℕ → (ℕ → ℕ → ℕ → Type 0) → ℕ → ℕ → ℕ → Type 0
From keys n C k i t = SomePassed keys n (λ l j. C l j t) k i

module _ (keys : List ℕ) (n : ℕ) (C : ℕ → ℕ → ℕ → Type 0) where
  pub from-none : IsSet 0 (From keys n C 0 0)
  from-none = is_set-none (λ t. passed_none keys n (λ l j. C l j t))

  module _ (all : Set) {k i : ℕ} (h : IsSet all (From keys n C k i)) where
    pub from-turn : (here : Set) {next : Set} → IsSet here (C k i) → next ≡ union all here → k < n → i < versions_of keys k → IsSet next (From keys n C k (i + 1))
    from-turn here is e b c =
        rw e (is_set-as (union all here) (λ t. let (x, y) = passed-turn keys n (λ l j. C l j t) k i b c in (y, x)) (is_set-union all here h is))

    pub from_key : versions_of keys k ≤ i → IsSet all (From keys n C (k + 1) 0)
    from_key c = is_set-as all (λ t. passed-key keys n (λ l j. C l j t) k i c) h

    pub from_all : n ≤ k → IsSet all (λ t. Some keys n (λ l j. C l j t))
    from_all m = is_set-as all (λ t. passed-all keys n (λ l j. C l j t) k i m) h
