-- A set from a test, and how many numbers a set holds. Assumes nothing.
use Prim.Native.Nat.{ℕ, zero, suc, ◌*◌, ◌/◌, ◌%◌, ◌^◌, ◌<◌}
use mathlib.Core.Path.{◌≡◌, refl, sym, ap, ◌∙◌, subst}
use mathlib.Core.Bool.{Bool, true, false, ◌||◌, not}
use mathlib.Core.Logic.{◌⊎◌, inl, inr, ◌≢◌}
use native.Mathlib.Omega.{arith}
use native.Mathlib.Nat.{pow-suc, div-div-eq-div-mul}
use native.Mathlib.Decide.{ℕ_discrete}
use lib.Bits.{or_lt}
use lib.Count.{ones, ones_step, ones-ones}
use lib.Dec.{T, eqb, eqb→eq, lit<}
use borrow.Author.Tests.{eq-eqb, ne_eqb}
use Rattle.search.specs.Choose.{choose}
use Rattle.search.specs.Search.{how_many}
use Rattle.search.proofs.Choose.{choose-ind}
use Rattle.search.proofs.Tests.{eq_test, or_left, or_right, or_cases}
use Rattle.search.proofs.Counting.{how_many-first}
use Rattle.sets.specs.Set.{Set, has, insert, single, below, size, set_of}
use Rattle.sets.proofs.Laws.{has-none}
use Rattle.sets.proofs.Algebra.{has-insert-is}

-- ---- a set from a test

pub has-set_of : (n : ℕ) (f : ℕ → Bool) (k : ℕ) → T (has (set_of n f) k) → (k < n) × T (f k)
unfolding set_of
has-set_of zero f k = λ h. absurd (has-none k h)
has-set_of (suc n) f k =
    choose-ind (λ (m : Set). T (has m k) → (k < suc n) × T (f k)) (f n) (insert n (set_of n f)) (set_of n f)
    (λ pass h. go pass (has-set_of n f k) (or_cases (eqb k n) (has (set_of n f) k) (subst T (has-insert-is n (set_of n f) k) h)))
    (λ fail h. let r = has-set_of n f k h in (omega (arith, r.0), r.1))
  where
    go : T (f n) → (T (has (set_of n f) k) → (k < n) × T (f k)) → T (eqb k n) ⊎ T (has (set_of n f) k) → (k < suc n) × T (f k)
    go pass ih (inl e) = let same = eqb→eq k n e in (omega arith, subst (λ (j : ℕ). T (f j)) (sym same) pass)
    go pass ih (inr h) = let r = ih h in (omega (arith, r.0), r.1)

pub set_of-has : (n : ℕ) (f : ℕ → Bool) (k : ℕ) → k < n → T (f k) → T (has (set_of n f) k)
unfolding set_of
set_of-has zero f k l t = absurd (omega arith)
set_of-has (suc n) f k l t =
    choose-ind (λ (m : Set). T (has m k)) (f n) (insert n (set_of n f)) (set_of n f)
    (λ pass. subst T (sym (has-insert-is n (set_of n f) k)) (go (ℕ_discrete k n) (λ m. set_of-has n f k m t)))
    (λ fail. elsewhere (ℕ_discrete k n) fail (λ m. set_of-has n f k m t))
  where
    go : Dec (k ≡ n) → (k < n → T (has (set_of n f) k)) → T (eqb k n || has (set_of n f) k)
    go (yes e) ih = or_left (eqb k n) (has (set_of n f) k) (eq_test k n e)
    go (no m) ih = or_right (eqb k n) (has (set_of n f) k) (ih (omega arith))

    elsewhere : Dec (k ≡ n) → T (not (f n)) → (k < n → T (has (set_of n f) k)) → T (has (set_of n f) k)
    elsewhere (yes e) fail ih = absurd (both (f n) (subst (λ (j : ℕ). T (f j)) e t) fail)
      where
        both : (b : Bool) → T b → ¬ T (not b)
        both true x y = y
        both false x y = x
    elsewhere (no m) fail ih = ih (omega arith)

pub set_of-small : (n : ℕ) (f : ℕ → Bool) → set_of n f < 2 ^ n
unfolding set_of
set_of-small zero f = lit< tt
set_of-small (suc n) f =
    let rest = set_of-small n f in
    let twice = pow-suc 2 n in
    let more : set_of n f < 2 ^ suc n = omega arith in
    let one : single n < 2 ^ suc n = omega arith in
    choose-ind (λ (m : Set). m < 2 ^ suc n) (f n) (insert n (set_of n f)) (set_of n f) (λ pass. or_lt (suc n) (set_of n f) (single n) more one) (λ fail. more)

-- ---- how many

has-suc : (m k : ℕ) → has m (suc k) ≡ has (m / 2) k
has-suc m k =
    let p : 2 ^ suc k ≡ 2 * 2 ^ k = omega (arith, pow-suc 2 k) in
    ap (λ (x : ℕ). eqb (x % 2) 1) (ap (λ (x : ℕ). m / x) p ∙ sym (div-div-eq-div-mul m 2 (2 ^ k)))

bit-of : (m : ℕ) → choose (has m 0) 1 0 ≡ m % 2
unfolding choose
bit-of m = go (m % 2) refl
  where
    go : (d : ℕ) → m % 2 ≡ d → choose (has m 0) 1 0 ≡ m % 2
    go zero e = let z : m / 1 % 2 ≢ 1 = omega arith in rw (ne_eqb (m / 1 % 2) 1 z) (omega arith)
    go (suc zero) e = let z : m / 1 % 2 ≡ 1 = omega arith in rw (eq-eqb (m / 1 % 2) 1 z) (omega arith)
    go (suc (suc d)) e = absurd (omega arith)

-- a set holds as many as pass the test of holding
pub size-how_many : (n m : ℕ) → m < 2 ^ n → size m ≡ how_many n (has m)
unfolding how_many size ones
size-how_many zero m small = let z : m ≡ 0 = omega arith in rw z refl
size-how_many (suc n) m small =
    let p = pow-suc 2 n in
    let rest = size-how_many n (m / 2) (omega arith) in
    let others : how_many n (λ k. has m (suc k)) ≡ how_many n (has (m / 2)) = ap (λ (f : ℕ → Bool). how_many n f) (λ i k. has-suc m k i) in
    let first = bit-of m in
    ones_step m ∙ sym (how_many-first n (has m) ∙ omega arith)

-- the full mask of a key with c versions has c members
pub full-count : (full c : ℕ) → full ≡ below c → size full ≡ c
unfolding size
full-count full c e = ap ones e ∙ ones-ones c
