-- What the searches answer. Assumes nothing.
use Prim.Native.Nat.{ℕ, zero, suc, ◌<◌}
use mathlib.Core.Path.{◌≡◌, refl, subst}
use mathlib.Core.Bool.{Bool, true, false, ◌||◌}
use mathlib.Core.Logic.{◌⊎◌, inl, inr, ◌↔◌}
use mathlib.Core.Option.{Option, some, none}
use native.Mathlib.Omega.{arith}
use native.Mathlib.Decide.{ℕ_discrete, dec_lt}
use lib.Dec.{T}
use Rattle.search.specs.Choose.{or_else, when}
use Rattle.search.specs.Search.{any, least}
use Rattle.search.proofs.Tests.{or_left, or_right, or_cases, some-none}

pub any-in : (n : ℕ) (f : ℕ → Bool) (i : ℕ) → i < n → T (f i) → T (any n f)
unfolding any
any-in zero f i l t = absurd (omega arith)
any-in (suc n) f i l t = go (ℕ_discrete i n) (any-in n f i)
  where
    go : Dec (i ≡ n) → (i < n → T (f i) → T (any n f)) → T (f n || any n f)
    go (yes e) h = or_left (f n) (any n f) (subst (λ (j : ℕ). T (f j)) e t)
    go (no q) h = or_right (f n) (any n f) (h (omega arith) t)

pub any_out : (n : ℕ) (f : ℕ → Bool) → T (any n f) → (i : ℕ) × (i < n) × T (f i)
unfolding any
any_out zero f t = absurd t
any_out (suc n) f t = go (or_cases (f n) (any n f) t) (any_out n f)
  where
    go : T (f n) ⊎ T (any n f) → (T (any n f) → (i : ℕ) × (i < n) × T (f i)) → (i : ℕ) × (i < suc n) × T (f i)
    go (inl x) h = (n, omega arith, x)
    go (inr x) h = let y = h x in let l : y.0 < n = y.1 in (y.0, omega arith, y.2)

pub any-is : {P : ℕ → Type 0} (n : ℕ) (f : ℕ → Bool) → ((i : ℕ) → T (f i) ↔ P i) → T (any n f) ↔ ((i : ℕ) × (i < n) × P i)
any-is n f e = (λ t. let x = any_out n f t in (x.0, x.1, (e x.0).0 x.2), λ x. any-in n f x.0 x.1 ((e x.0).1 x.2))

-- what the search for the least answers
pub data Least (n : ℕ) (f : ℕ → Bool) : Option ℕ → Type 0 where
  found : {i : ℕ} → i < n → T (f i) → ((j : ℕ) → j < i → ¬ T (f j)) → Least n f (some i)
  missed : ((j : ℕ) → j < n → ¬ T (f j)) → Least n f none

pub least-is : (n : ℕ) (f : ℕ → Bool) → Least n f (least n f)
unfolding least or_else when
least-is zero f = missed (λ j l. absurd (omega arith))
least-is (suc n) f = go (least n f) (least-is n f)
  where
    last : (b : Bool) → f n ≡ b → ((j : ℕ) → j < n → ¬ T (f j)) → Least (suc n) f (when b n)
    last true e h = found {i = n} (omega arith) (rw e tt) h
    last false e h = missed (λ j l t. at j l t (ℕ_discrete j n))
      where
        at : (j : ℕ) → j < suc n → T (f j) → Dec (j ≡ n) → ⊥
        at j l t (yes q) = rw (q, e) at t
        at j l t (no q) = h j (omega arith) t

    go : (o : Option ℕ) → Least n f o → Least (suc n) f (or_else o (when (f n) n))
    go (some i) (found l t h) = found {i = i} (omega arith) t h
    go none (missed h) = last (f n) refl h

-- nothing is found exactly where nothing passes
pub least-none : (n : ℕ) (f : ℕ → Bool) → (least n f ≡ none) ↔ ((j : ℕ) → j < n → ¬ T (f j))
least-none n f = go (least n f) (least-is n f)
  where
    go : (o : Option ℕ) → Least n f o → (o ≡ none) ↔ ((j : ℕ) → j < n → ¬ T (f j))
    go none (missed h) = (λ e. h, λ h'. refl)
    go (some i) (found l t h) = (λ e. some-none e, λ h'. absurd (h' i l t))

-- the first that passes is the least
pub least-found : (n : ℕ) (f : ℕ → Bool) (i : ℕ) → i < n → T (f i) → ((j : ℕ) → j < i → ¬ T (f j)) → least n f ≡ some i
least-found n f i l t h = go (least n f) (least-is n f)
  where
    same : (j : ℕ) → T (f j) → ((m : ℕ) → m < j → ¬ T (f m)) → Dec (j < i) → Dec (i < j) → ◌≡◌ {A = Option ℕ} (some j) (some i)
    same j u g (yes x) y = absurd (h j x u)
    same j u g (no x) (yes y) = absurd (g i y t)
    same j u g (no x) (no y) = let e : j ≡ i = omega arith in rw e

    go : (o : Option ℕ) → Least n f o → o ≡ some i
    go none (missed m) = absurd (m i l t)
    go (some j) (found _ u g) = same j u g (dec_lt j i) (dec_lt i j)
