-- How many numbers below a bound pass a test. Assumes nothing.
use Prim.Native.Nat.{ℕ, zero, suc, ◌+◌, ◌-◌, ◌≤◌, ◌<◌, zero-le}
use mathlib.Core.Path.{◌≡◌, refl, sym, ap, ap₂, ◌∙◌, subst}
use mathlib.Core.Bool.{Bool, true, false, ◌||◌}
use mathlib.Core.Logic.{◌⊎◌, inl, inr, ◌≢◌}
use native.Mathlib.Omega.{arith}
use native.Mathlib.Decide.{ℕ_discrete}
use lib.Dec.{T, eqb, eqb→eq}
use Rattle.search.specs.Choose.{choose}
use Rattle.search.specs.Search.{how_many}
use Rattle.search.proofs.Tests.{T_true, T_false, same_test, eq_test, or_left, or_right, or_cases}

-- tests that agree below n
pub how_many-same : (n : ℕ) (f g : ℕ → Bool) → ((k : ℕ) → k < n → f k ≡ g k) → how_many n f ≡ how_many n g
unfolding how_many
how_many-same zero f g e = refl
how_many-same (suc n) f g e = ap₂ (λ (b : Bool) (m : ℕ). choose b 1 0 + m) (e n (omega arith)) (how_many-same n f g (λ k l. e k (omega arith)))

one-or-none : (b : Bool) → ◌≤◌ (choose b 1 0) 1
unfolding choose
one-or-none true = omega arith
one-or-none false = omega arith

pub how_many-le : (n : ℕ) (f : ℕ → Bool) → how_many n f ≤ n
unfolding how_many
how_many-le zero f = zero-le
how_many-le (suc n) f = let first = one-or-none (f n) in let rest = how_many-le n f in omega arith

-- none from n on
how_many-beyond : (d n : ℕ) (f : ℕ → Bool) → ((k : ℕ) → n ≤ k → k < d + n → ¬ T (f k)) → how_many (d + n) f ≡ how_many n f
unfolding how_many choose
how_many-beyond zero n f no_more = let e : 0 + n ≡ n = omega arith in ap (λ (m : ℕ). how_many m f) e
how_many-beyond (suc d) n f no_more =
    ap (λ (m : ℕ). how_many m f) more ∙ ap (λ (b : Bool). choose b 1 0 + how_many (d + n) f) (T_false (f (d + n)) (no_more (d + n) (omega arith) (omega arith)))
    ∙ plus_none ∙ how_many-beyond d n f (λ k l m. no_more k l (omega arith))
  where
    more : suc d + n ≡ suc (d + n)
    more = omega arith

    plus_none : 0 + how_many (d + n) f ≡ how_many (d + n) f
    plus_none = omega arith

pub how_many-passed : (n m : ℕ) (f : ℕ → Bool) → n ≤ m → ((k : ℕ) → n ≤ k → k < m → ¬ T (f k)) → how_many m f ≡ how_many n f
how_many-passed n m f l none_between =
    let e : m ≡ m - n + n = omega arith in
    ap (λ (k : ℕ). how_many k f) e ∙ how_many-beyond (m - n) n f (λ k from to. none_between k from (omega arith))

-- one that did not pass does
pub how_many-one-more : (n j : ℕ) (f g : ℕ → Bool) → j < n → ¬ T (f j) → T (g j) → ((k : ℕ) → k ≢ j → f k ≡ g k) → how_many n g ≡ suc (how_many n f)
unfolding how_many choose
how_many-one-more zero j f g l no-j yes-j e = absurd (omega arith)
how_many-one-more (suc n) j f g l no-j yes-j e = go (ℕ_discrete n j) (λ m. how_many-one-more n j f g m no-j yes-j e)
  where
    go : Dec (n ≡ j) → (j < n → how_many n g ≡ suc (how_many n f)) → choose (g n) 1 0 + how_many n g ≡ suc (choose (f n) 1 0 + how_many n f)
    go (yes here) ih =
        let g-n : g n ≡ true = T_true (g n) (subst (λ (k : ℕ). T (g k)) (sym here) yes-j) in
        let f-n : f n ≡ false = T_false (f n) (subst (λ (k : ℕ). ¬ T (f k)) (sym here) no-j) in
        let rest = how_many-same n f g (λ k m. e k (omega arith)) in
        rw (g-n, f-n) (omega arith)
    go (no there) ih =
        let same = e n there in
        let rest = ih (omega arith) in
        rw same (omega arith)

-- the first of those that pass, and the others
pub how_many-first : (n : ℕ) (f : ℕ → Bool) → how_many (suc n) f ≡ choose (f 0) 1 0 + how_many n (λ k. f (suc k))
unfolding how_many
how_many-first zero f = refl
how_many-first (suc n) f = let rest = how_many-first n f in omega arith

-- a test that one number passes besides
besides : (j : ℕ) (f : ℕ → Bool) (k : ℕ) → k ≢ j → f k ≡ (eqb j k || f k)
besides j f k other = same_test (f k) (eqb j k || f k) (or_right (eqb j k) (f k)) (λ t. go (or_cases (eqb j k) (f k) t))
  where
    go : T (eqb j k) ⊎ T (f k) → T (f k)
    go (inl e) = absurd (other (sym (eqb→eq j k e)))
    go (inr x) = x

pub how_many-besides : (n j : ℕ) (f : ℕ → Bool) → j < n → ¬ T (f j) → how_many n (λ k. eqb j k || f k) ≡ suc (how_many n f)
how_many-besides n j f l no-j = how_many-one-more n j f (λ k. eqb j k || f k) l no-j (or_left (eqb j j) (f j) (eq_test j j refl)) (besides j f)

-- one that passed already
pub how_many-again : (n j : ℕ) (f : ℕ → Bool) → T (f j) → how_many n (λ k. eqb j k || f k) ≡ how_many n f
how_many-again n j f yes-j = how_many-same n (λ k. eqb j k || f k) f (λ k l. same_test (eqb j k || f k) (f k) (λ t. go k (or_cases (eqb j k) (f k) t)) (or_right (eqb j k) (f k)))
  where
    go : (k : ℕ) → T (eqb j k) ⊎ T (f k) → T (f k)
    go k (inl e) = subst (λ (i : ℕ). T (f i)) (eqb→eq j k e) yes-j
    go k (inr x) = x

pub how_many-none : (n : ℕ) → how_many n (λ k. false) ≡ 0
unfolding how_many choose
how_many-none zero = refl
how_many-none (suc n) = let rest = how_many-none n in omega arith

-- a higher bound has no fewer
how_many-more : (d i : ℕ) (f : ℕ → Bool) → how_many i f ≤ how_many (d + i) f
unfolding how_many
how_many-more zero i f = let e : 0 + i ≡ i = omega arith in rw e (omega arith)
how_many-more (suc d) i f = let e : suc d + i ≡ suc (d + i) = omega arith in let rest = how_many-more d i f in rw e (omega arith)

pub how_many-mono : (i n : ℕ) (f : ℕ → Bool) → i ≤ n → how_many i f ≤ how_many n f
how_many-mono i n f l = let e : n ≡ n - i + i = omega arith in rw e (how_many-more (n - i) i f)

-- what passes one test passes the other, so no fewer do
module _ (f g : ℕ → Bool) (also : (k : ℕ) → T (f k) → T (g k)) where
  no-fewer : (b c : Bool) → (T b → T c) → {m n : ℕ} → m ≤ n → choose b 1 0 + m ≤ choose c 1 0 + n
  unfolding choose
  no-fewer true true h l = omega arith
  no-fewer true false h l = absurd (h tt)
  no-fewer false true h l = omega arith
  no-fewer false false h l = omega arith

  pub how_many-also : (n : ℕ) → how_many n f ≤ how_many n g
  unfolding how_many
  how_many-also zero = omega arith
  how_many-also (suc n) = no-fewer (f n) (g n) (also n) (how_many-also n)

  one_more : (b c : Bool) → ¬ T b → T c → {m n : ℕ} → m ≤ n → choose b 1 0 + m < choose c 1 0 + n
  unfolding choose
  one_more true c h t l = absurd (h tt)
  one_more false true h t l = omega arith
  one_more false false h t l = absurd t

  -- and more where one passes only the other
  pub how_many-grows : (n j : ℕ) → j < n → ¬ T (f j) → T (g j) → how_many n f < how_many n g
  unfolding how_many
  how_many-grows zero j l no-j yes-j = absurd (omega arith)
  how_many-grows (suc n) j l no-j yes-j = go (ℕ_discrete j n) (how_many-grows n j)
    where
      go : Dec (j ≡ n) → (j < n → ¬ T (f j) → T (g j) → how_many n f < how_many n g) → choose (f n) 1 0 + how_many n f < choose (g n) 1 0 + how_many n g
      go (yes e) ih = one_more (f n) (g n) (subst (λ (k : ℕ). ¬ T (f k)) e no-j) (subst (λ (k : ℕ). T (g k)) e yes-j) (how_many-also n)
      go (no e) ih = let more : suc (how_many n f) ≤ how_many n g = ih (omega arith) no-j yes-j in let x = no-fewer (f n) (g n) (also n) more in omega arith
