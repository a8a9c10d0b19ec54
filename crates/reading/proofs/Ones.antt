-- "ones count readers" (01, Which shape goes where): sets have no member in common, two and two, exactly where all of them together hold as many as
-- each holds, added up. Assumes nothing.
use Prim.Native.Nat.{ℕ, zero, suc, ◌+◌, ◌*◌, ◌^◌, ◌≤◌, ◌<◌}
use mathlib.Core.Path.{◌≡◌, refl, sym, ap, ap₂, ◌∙◌, subst}
use mathlib.Core.Bool.{Bool, true, false, ◌&&◌, ◌||◌}
use mathlib.Core.Logic.{◌⊎◌, inl, inr, ◌↔◌, ◌≢◌}
use native.Mathlib.Omega.{arith}
use native.Mathlib.Decide.{ℕ_discrete}
use lib.Bits.{bit_and, and_lt}
use lib.Count.{ones, ones_cat}
use lib.Dec.{T, lit<}
use lib.Pow.{pow_pos}
use Rattle.search.specs.Choose.{choose}
use Rattle.search.specs.Search.{how_many}
use Rattle.search.proofs.Tests.{or_is, same}
use Rattle.search.proofs.Counting.{how_many-same}
use Rattle.sets.specs.Set.{Set, has, single, union, size}
use Rattle.sets.proofs.Laws.{has-none, has-lt, single-has, single-only}
use Rattle.sets.proofs.Algebra.{has-union, has_both, both_is, empty-is, union-word}
use Rattle.sets.proofs.Counting.{size-how_many}

-- ---- how many two sets hold together

one_place : (x y : Bool) → ◌≡◌ {A = ℕ} (choose (x || y) 1 0 + choose (x && y) 1 0) (choose x 1 0 + choose y 1 0)
unfolding choose
one_place true true = refl
one_place true false = refl
one_place false true = refl
one_place false false = refl

how_many-union : (n : ℕ) (f g : ℕ → Bool) → how_many n (λ i. f i || g i) + how_many n (λ i. f i && g i) ≡ how_many n f + how_many n g
unfolding how_many
how_many-union zero f g = refl
how_many-union (suc n) f g = let here = one_place (f n) (g n) in let rest = how_many-union n f g in omega arith

pub size-union : (a b : Set) → a < 2 ^ 64 → b < 2 ^ 64 → size (union a b) + size (bit_and a b) ≡ size a + size b
size-union a b l m =
    let u : size (union a b) ≡ how_many 64 (λ i. has a i || has b i) =
    size-how_many 64 (union a b) (union-word a b l m) ∙ how_many-same 64 _ _ (λ i h. has-union a b i) in
    let v : size (bit_and a b) ≡ how_many 64 (λ i. has a i && has b i) =
    size-how_many 64 (bit_and a b) (and_lt 64 a b l m) ∙ how_many-same 64 _ _ (λ i h. has_both a b i) in
    ap₂ (λ (x y : ℕ). x + y) u v ∙ how_many-union 64 (has a) (has b) ∙ ap₂ (λ (x y : ℕ). x + y) (sym (size-how_many 64 a l)) (sym (size-how_many 64 b m))

none_passes : (n : ℕ) (f : ℕ → Bool) → how_many n f ≡ 0 → (i : ℕ) → i < n → ¬ T (f i)
unfolding how_many choose
none_passes zero f e i l t = absurd (omega arith)
none_passes (suc n) f e i l t = go (f n) refl (ℕ_discrete i n) (λ z m. none_passes n f z i m t)
  where
    go : (b : Bool) → f n ≡ b → Dec (i ≡ n) → (how_many n f ≡ 0 → i < n → ⊥) → ⊥
    go true p d ih = let z : ◌≡◌ {A = ℕ} (choose (f n) 1 0) 1 = ap (λ (x : Bool). choose x 1 0) p in absurd (omega (arith, e))
    go false p (yes q) ih = subst T p (subst (λ (j : ℕ). T (f j)) q t)
    go false p (no q) ih = ih (omega (arith, e)) (omega arith)

-- a set that holds none is empty
pub size_none : (m : Set) → m < 2 ^ 64 → size m ≡ 0 → m ≡ 0
size_none m l e = (empty-is m).1 (λ i t. none_passes 64 (has m) (sym (size-how_many 64 m l) ∙ e) i (has-lt 64 m i l t) t)

size-empty : size 0 ≡ 0
unfolding size ones
size-empty = refl

pub size-single : (i : ℕ) → size (single i) ≡ 1
unfolding size ones
size-single i = let e : single i ≡ 1 * 2 ^ i + 0 = omega arith in ap ones e ∙ ones_cat i 1 0 (pow_pos i)

-- ---- sets one after the other

-- what any of the first n holds
unfoldable pub gathered : ℕ → (ℕ → Set) → Set
gathered zero f = 0
gathered (suc n) f = union (gathered n f) (f n)

-- how many each of them holds, added up
unfoldable pub counted : ℕ → (ℕ → Set) → ℕ
counted zero f = 0
counted (suc n) f = counted n f + size (f n)

pub gathered-is : (n : ℕ) (f : ℕ → Set) (t : ℕ) → T (has (gathered n f) t) ↔ ((i : ℕ) × (i < n) × T (has (f i) t))
unfolding gathered
gathered-is zero f t = (λ h. absurd (has-none t h), λ x. let l : x.0 < 0 = x.1 in absurd (omega arith))
gathered-is (suc n) f t =
    rw (has-union (gathered n f) (f n) t)
    (λ h. out ((or_is (has (gathered n f) t) (has (f n) t) (gathered-is n f t) same).0 h), λ x. (or_is (has (gathered n f) t) (has (f n) t) (gathered-is n f t) same).1 (into x))
  where
    out : ((i : ℕ) × (i < n) × T (has (f i) t)) ⊎ T (has (f n) t) → (i : ℕ) × (i < suc n) × T (has (f i) t)
    out (inl (i, l, h)) = (i, omega arith, h)
    out (inr h) = (n, omega arith, h)

    at : (i : ℕ) → i < suc n → T (has (f i) t) → Dec (i ≡ n) → ((i : ℕ) × (i < n) × T (has (f i) t)) ⊎ T (has (f n) t)
    at i l h (yes e) = inr (subst (λ (j : ℕ). T (has (f j) t)) e h)
    at i l h (no e) = inl (i, omega arith, h)

    into : ((i : ℕ) × (i < suc n) × T (has (f i) t)) → ((i : ℕ) × (i < n) × T (has (f i) t)) ⊎ T (has (f n) t)
    into (i, l, h) = at i l h (ℕ_discrete i n)

pub gathered-suc : (n : ℕ) (f : ℕ → Set) → gathered (suc n) f ≡ union (gathered n f) (f n)
unfolding gathered
gathered-suc n f = refl

pub counted-suc : (n : ℕ) (f : ℕ → Set) → counted (suc n) f ≡ counted n f + size (f n)
unfolding counted
counted-suc n f = refl

-- two and two they have no member in common
abbrev pub Apart : ℕ → (ℕ → Set) → Type 0
Apart n f = (i j : ℕ) → i < j → j < n → bit_and (f i) (f j) ≡ 0

module _ (f : ℕ → Set) (most : ℕ) (words : (i : ℕ) → i < most → f i < 2 ^ 64) where
  pub gathered-word : (n : ℕ) → n ≤ most → gathered n f < 2 ^ 64
  unfolding gathered
  gathered-word zero l = lit< tt
  gathered-word (suc n) l = union-word (gathered n f) (f n) (gathered-word n (omega arith)) (words n l)

  -- the next one and those before it
  step-size : (n : ℕ) → n < most → size (gathered (suc n) f) + size (bit_and (gathered n f) (f n)) ≡ size (gathered n f) + size (f n)
  unfolding gathered
  step-size n l = size-union (gathered n f) (f n) (gathered-word n (omega arith)) (words n l)

  at_most : (n : ℕ) → n ≤ most → size (gathered n f) ≤ counted n f
  unfolding gathered counted
  at_most zero l = omega (arith, size-empty)
  at_most (suc n) l = let h = at_most n (omega arith) in let s = step-size n l in let c = counted-suc n f in omega arith

  meets : ℕ → Set
  meets n = bit_and (gathered n f) (f n)

  meets_word : (n : ℕ) → n < most → meets n < 2 ^ 64
  unfolding meets
  meets_word n l = and_lt 64 (gathered n f) (f n) (gathered-word n (omega arith)) (words n l)

  -- the next one has no member in common with those before it, together and one by one
  meets-none : (n : ℕ) → meets n ≡ 0 → (i : ℕ) → i < n → bit_and (f i) (f n) ≡ 0
  unfolding meets
  meets-none n e i l =
      (empty-is (bit_and (f i) (f n))).1
      (λ t h. let x = (both_is (f i) (f n) t).0 h in
      (empty-is (bit_and (gathered n f) (f n))).0 e t ((both_is (gathered n f) (f n) t).1 ((gathered-is n f t).1 (i, l, x.0), x.1)))

  none-meets : (n : ℕ) → ((i : ℕ) → i < n → bit_and (f i) (f n) ≡ 0) → meets n ≡ 0
  unfolding meets
  none-meets n h =
      (empty-is (bit_and (gathered n f) (f n))).1
      (λ t g. let x = (both_is (gathered n f) (f n) t).0 g in
      let y = (gathered-is n f t).0 x.0 in
      (empty-is (bit_and (f y.0) (f n))).0 (h y.0 y.1) t ((both_is (f y.0) (f n) t).1 (y.2, x.1)))

  -- as many together as added up, exactly where they are apart
  pub ones-count : (n : ℕ) → n ≤ most → (size (gathered n f) ≡ counted n f) ↔ Apart n f
  unfolding gathered counted meets
  ones-count zero l = (λ e i j p q. absurd (omega arith), λ h. size-empty)
  ones-count (suc n) l = (λ e. out (ones-count n (omega arith)) e, λ h. into (ones-count n (omega arith)) h)
    where
      out : (size (gathered n f) ≡ counted n f) ↔ Apart n f → size (gathered (suc n) f) ≡ counted (suc n) f → Apart (suc n) f
      out ih e i j p q = go (ℕ_discrete j n)
        where
          alone : size (meets n) ≡ 0
          alone = omega (arith, e, at_most n (omega arith), step-size n l, counted-suc n f)

          so_far : size (gathered n f) ≡ counted n f
          so_far = omega (arith, e, at_most n (omega arith), step-size n l, counted-suc n f)

          go : Dec (j ≡ n) → bit_and (f i) (f j) ≡ 0
          go (yes x) = rw x (meets-none n (size_none (meets n) (meets_word n l) alone) i (omega arith))
          go (no x) = ih.0 so_far i j p (omega arith)

      into : (size (gathered n f) ≡ counted n f) ↔ Apart n f → Apart (suc n) f → size (gathered (suc n) f) ≡ counted (suc n) f
      into ih h =
          let alone : size (meets n) ≡ 0 = ap size (none-meets n (λ i m. h i n m (omega arith))) ∙ size-empty in
          let so_far : size (gathered n f) ≡ counted n f = ih.1 (λ i j p q. h i j p (omega arith)) in
          omega (arith, alone, so_far, step-size n l, counted-suc n f)

-- ---- sets of one number each

pub counted-singles : (n : ℕ) (w : ℕ → ℕ) → counted n (λ i. single (w i)) ≡ n
unfolding counted
counted-singles zero w = refl
counted-singles (suc n) w = let rest = counted-singles n w in omega (arith, size-single (w n))

pub singles-apart : (a b : ℕ) → (bit_and (single a) (single b) ≡ 0) ↔ (a ≢ b)
singles-apart a b = (
  λ e q. (empty-is (bit_and (single a) (single b))).0 e a ((both_is (single a) (single b) a).1 (single-has a, subst (λ (x : ℕ). T (has (single x) a)) q (single-has a))),
  λ n. (empty-is (bit_and (single a) (single b))).1 (λ t h. let x = (both_is (single a) (single b) t).0 h in n (sym (single-only a t x.0) ∙ single-only b t x.1)),
)
