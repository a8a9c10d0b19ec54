-- Lists of distinct numbers, by their places: how long they can be, and what they hold. Assumes nothing.
use Prim.Native.Nat.{ℕ, zero, suc, ◌-◌, ◌≤◌, ◌<◌}
use mathlib.Core.Path.{◌≡◌, refl, sym, ap, ◌∙◌}
use mathlib.Core.Bool.{not}
use mathlib.Core.Logic.{◌⊎◌, inl, inr, ◌≢◌}
use mathlib.Core.Option.{Option, some, none}
use mathlib.Core.List.{List, [], ◌∷◌}
use native.Mathlib.Omega.{arith}
use native.Mathlib.Decide.{ℕ_discrete}
use lib.Dec.{T, eqb, T_not}
use lib.ListN.{length, get_or}
use Rattle.search.specs.Choose.{choose}
use Rattle.search.specs.Search.{least}
use Rattle.search.proofs.Choose.{choose_yes, choose_no}
use Rattle.search.proofs.Tests.{and_left, and_right, or_left, or_right, or_cases, eq_is, eq_test, not_is}
use Rattle.search.proofs.Search.{Least, found, missed, least-is}
use Rattle.ordering.specs.Links.{IsCommit}
use Rattle.ordering.specs.Order.{EachOnce}
use Rattle.ordering.specs.Ring.{member, distinct, or_zero}

-- no more numbers below n than n are different
pub pigeonhole : (m n : ℕ) (f : ℕ → ℕ) → ((i : ℕ) → i < m → f i < n) → ((i j : ℕ) → i < m → j < m → f i ≡ f j → i ≡ j) → m ≤ n
pigeonhole zero n f low inj = omega arith
pigeonhole (suc m) zero f low inj = let h : f 0 < 0 = low 0 (omega arith) in omega arith
pigeonhole (suc m) (suc n) f low inj = let h : m ≤ n = pigeonhole m n g low-g inj-g in omega arith
  where
    -- n itself, where f has it, gives way to the last number
    g : ℕ → ℕ
    g i = choose (eqb (f i) n) (f m) (f i)

    Made : ℕ → Type 0
    Made i = ((f i ≡ n) × (g i ≡ f m)) ⊎ ((f i ≢ n) × (g i ≡ f i))

    made : (i : ℕ) → Made i
    made i = go (ℕ_discrete (f i) n)
      where
        go : Dec (f i ≡ n) → Made i
        go (yes e) = inl (e, choose_yes (eqb (f i) n) (f m) (f i) (eq_test (f i) n e))
        go (no x) = inr (x, choose_no (eqb (f i) n) (f m) (f i) ((not_is (eqb (f i) n) (eq_is (f i) n)).1 x))

    low-g : (i : ℕ) → i < m → g i < n
    low-g i l = go (made i) (ℕ_discrete (f m) n)
      where
        go : Made i → Dec (f m ≡ n) → g i < n
        go (inl (e, q)) (yes x) = let z : i ≡ m = inj i m (omega arith) (omega arith) (e ∙ sym x) in absurd (omega arith)
        go (inl (e, q)) (no x) = let h : f m < suc n = low m (omega arith) in omega (arith, q)
        go (inr (x, q)) d = let h : f i < suc n = low i (omega arith) in omega (arith, q)

    inj-g : (i j : ℕ) → i < m → j < m → g i ≡ g j → i ≡ j
    inj-g i j li lj e = go (made i) (made j)
      where
        go : Made i → Made j → i ≡ j
        go (inl (p, q)) (inl (p', q')) = inj i j (omega arith) (omega arith) (p ∙ sym p')
        go (inl (p, q)) (inr (p', q')) = let z : m ≡ j = inj m j (omega arith) (omega arith) (sym q ∙ e ∙ q') in absurd (omega arith)
        go (inr (p, q)) (inl (p', q')) = let z : i ≡ m = inj i m (omega arith) (omega arith) (sym q ∙ e ∙ q') in absurd (omega arith)
        go (inr (p, q)) (inr (p', q')) = inj i j (omega arith) (omega arith) (sym q ∙ e ∙ q')

-- ---- members by their places

-- c stands at a place of the list
abbrev pub At : ℕ → List ℕ → Type 0
At c xs = (i : ℕ) × (i < length xs) × (get_or xs i 0 ≡ c)

pub member-at : (c : ℕ) (xs : List ℕ) → T (member c xs) → At c xs
unfolding member
member-at c [] t = absurd t
member-at c (x ∷ xs) t = go (or_cases (eqb c x) (member c xs) t) (member-at c xs)
  where
    go : T (eqb c x) ⊎ T (member c xs) → (T (member c xs) → At c xs) → At c (x ∷ xs)
    go (inl e) h = (0, omega arith, sym ((eq_is c x).0 e))
    go (inr m) h = let y = h m in let l : y.0 < length xs = y.1 in (suc y.0, omega arith, y.2)

pub at-member : (c : ℕ) (xs : List ℕ) → At c xs → T (member c xs)
unfolding member
at-member c [] (i, l, e) = absurd (omega arith)
at-member c (x ∷ xs) (zero, l, e) = or_left (eqb c x) (member c xs) (eq_test c x (sym e))
at-member c (x ∷ xs) (suc i, l, e) = or_right (eqb c x) (member c xs) (at-member c xs (i, omega arith, e))

-- every entry is one of n commits
abbrev pub OnlyCommits : ℕ → List ℕ → Type 0
OnlyCommits n xs = (i : ℕ) → i < length xs → IsCommit n (get_or xs i 0)

-- no two places have the same
abbrev pub NoneTwice : List ℕ → Type 0
NoneTwice xs = (i j : ℕ) → i < length xs → j < length xs → get_or xs i 0 ≡ get_or xs j 0 → i ≡ j

pub distinct-places : (xs : List ℕ) → T (distinct xs) → NoneTwice xs
unfolding distinct
distinct-places [] t i j li lj e = absurd (omega arith)
distinct-places (x ∷ xs) t zero zero li lj e = refl
distinct-places (x ∷ xs) t zero (suc j) li lj e =
    absurd (T_not (member x xs) (and_left (not (member x xs)) (distinct xs) t) (at-member x xs (j, omega arith, sym e)))
distinct-places (x ∷ xs) t (suc i) zero li lj e =
    absurd (T_not (member x xs) (and_left (not (member x xs)) (distinct xs) t) (at-member x xs (i, omega arith, e)))
distinct-places (x ∷ xs) t (suc i) (suc j) li lj e =
    ap suc (distinct-places xs (and_right (not (member x xs)) (distinct xs) t) i j (omega arith) (omega arith) e)

-- a list of different commits is at most as long as there are commits
pub none-twice-few : (n : ℕ) (xs : List ℕ) → OnlyCommits n xs → NoneTwice xs → length xs ≤ n
none-twice-few n xs only twice = pigeonhole (length xs) n (λ i. get_or xs i 0 - 1) low inj
  where
    low : (i : ℕ) → i < length xs → get_or xs i 0 - 1 < n
    low i l = let h = only i l in omega (arith, h.0, h.1)

    inj : (i j : ℕ) → i < length xs → j < length xs → get_or xs i 0 - 1 ≡ get_or xs j 0 - 1 → i ≡ j
    inj i j li lj e = twice i j li lj (omega (arith, (only i li).0, (only j lj).0))

-- the place of a number in a list
place : List ℕ → ℕ → ℕ
place xs c = or_zero (least (length xs) (λ i. eqb (get_or xs i 0) c))

place_is : (xs : List ℕ) (c : ℕ) → At c xs → (place xs c < length xs) × (get_or xs (place xs c) 0 ≡ c)
unfolding or_zero place
place_is xs c (i, l, e) = go (least (length xs) (λ i. eqb (get_or xs i 0) c)) (least-is (length xs) (λ i. eqb (get_or xs i 0) c))
  where
    go : (o : Option ℕ) → Least (length xs) (λ i. eqb (get_or xs i 0) c) o → (or_zero o < length xs) × (get_or xs (or_zero o) 0 ≡ c)
    go none (missed m) = absurd (m i l (eq_test (get_or xs i 0) c e))
    go (some j) (found l' t h) = (l', (eq_is (get_or xs j 0) c).0 t)

-- a list in which each of n commits stands once has n entries
pub each-once-length : (n : ℕ) (xs : List ℕ) → EachOnce n xs → length xs ≡ n
each-once-length n xs h = omega (arith, none-twice-few n xs h.only-commits h.none-twice, pigeonhole n (length xs) (λ i. place xs (suc i)) low inj)
  where
    at : (i : ℕ) → i < n → (place xs (suc i) < length xs) × (get_or xs (place xs (suc i)) 0 ≡ suc i)
    at i l = place_is xs (suc i) (h.none-missing (suc i) (omega arith) (omega arith))

    low : (i : ℕ) → i < n → place xs (suc i) < length xs
    low i l = (at i l).0

    inj : (i j : ℕ) → i < n → j < n → place xs (suc i) ≡ place xs (suc j) → i ≡ j
    inj i j li lj e = let q : suc i ≡ suc j = sym (at i li).1 ∙ ap (λ (p : ℕ). get_or xs p 0) e ∙ (at j lj).1 in omega arith
