-- Within n links among n numbers is "+": whoever leads to a member of a set by one or more links does so within as many links as there are numbers. Each round
-- of links adds a number or is the last to matter, and there are only n to add. For any links and any set, so once for clauses 6 and 7. Assumes nothing.
use Prim.Native.Nat.{ℕ, zero, suc, ◌+◌, ◌-◌, ◌≤◌, ◌<◌}
use mathlib.Core.Path.{◌≡◌, refl, subst}
use mathlib.Core.Bool.{Bool, true, false, ◌&&◌, ◌||◌, not}
use mathlib.Core.Logic.{◌⊎◌, inl, inr, ◌↔◌}
use native.Mathlib.Omega.{arith}
use lib.Dec.{T, eqb}
use Rattle.search.specs.Search.{any, how_many}
use Rattle.search.proofs.Tests.{same, both, and_is, or_is, not_is, stable, T?}
use Rattle.search.proofs.Search.{any-is}
use Rattle.search.proofs.Counting.{how_many-le, how_many-grows}
use Rattle.relations.specs.Relation.{Relation, plus, Plus, one, more}
use Rattle.relations.specs.Within.{Within, within}
use Rattle.relations.proofs.Closure.{Means, Below, plus-means-as}

-- one or more links lead from a to a member of the set
abbrev pub LeadsTo : (ℕ → ℕ → Type 0) → (ℕ → Type 0) → ℕ → Type 0
LeadsTo R S a = (t : ℕ) × Plus R a t × S t

module _ (R : ℕ → ℕ → Type 0) (S : ℕ → Type 0) where
  -- ---- one link more

  pub within_more : (n a : ℕ) → Within R S (suc n) a ↔ (Within R S n a ⊎ ((b : ℕ) × R a b × (S b ⊎ Within R S n b)))
  unfolding Within
  within_more n a = same

  pub within_none : (a : ℕ) → ¬ Within R S zero a
  unfolding Within
  within_none a x = x

  kept : (n a : ℕ) → Within R S n a → Within R S (suc n) a
  kept n a x = (within_more n a).1 (inl x)

  linked : (n a b : ℕ) → R a b → S b ⊎ Within R S n b → Within R S (suc n) a
  linked n a b r x = (within_more n a).1 (inr (b, r, x))

  -- ---- whoever is within some links leads there, and is within that many or more

  leads : (n a : ℕ) → Within R S n a → LeadsTo R S a
  leads zero a x = absurd (within_none a x)
  leads (suc n) a x = go ((within_more n a).0 x) (leads n)
    where
      go : Within R S n a ⊎ ((b : ℕ) × R a b × (S b ⊎ Within R S n b)) → ((b : ℕ) → Within R S n b → LeadsTo R S b) → LeadsTo R S a
      go (inl y) ih = ih a y
      go (inr (b, r, inl s)) ih = (b, one r, s)
      go (inr (b, r, inr y)) ih = let (t, p, s) = ih b y in (t, more r p, s)

  some-links : {a t : ℕ} → Plus R a t → S t → (n : ℕ) × Within R S n a
  some-links (one r) s = (1, linked 0 _ _ r (inl s))
  some-links (more r p) s = let (n, x) = some-links p s in (suc n, linked n _ _ r (inr x))

  more-links : (d n a : ℕ) → Within R S n a → Within R S (d + n) a
  more-links zero n a x = let e : n ≡ 0 + n = omega arith in subst (λ (m : ℕ). Within R S m a) e x
  more-links (suc d) n a x = let e : suc (d + n) ≡ suc d + n = omega arith in subst (λ (m : ℕ). Within R S m a) e (kept (d + n) a (more-links d n a x))

  -- ---- one link more adds nobody, so no number of links does

  abbrev Settled : ℕ → Type 0
  Settled n = (a : ℕ) → Within R S (suc n) a → Within R S n a

  settled : (n : ℕ) → Settled n → (d a : ℕ) → Within R S d a → Within R S n a
  settled n h zero a x = absurd (within_none a x)
  settled n h (suc d) a x = go ((within_more d a).0 x) (settled n h d)
    where
      go : Within R S d a ⊎ ((b : ℕ) × R a b × (S b ⊎ Within R S d b)) → ((b : ℕ) → Within R S d b → Within R S n b) → Within R S n a
      go (inl y) ih = ih a y
      go (inr (b, r, inl s)) ih = h a (linked n a b r (inl s))
      go (inr (b, r, inr y)) ih = h a (linked n a b r (inr (ih b y)))

  -- ---- where the links and the set are tests, and every link is between two numbers below m

  module _ (m : ℕ) (r : Relation) (is-r : Means r R) (set : ℕ → Bool) (is_set : (a : ℕ) → T (set a) ↔ S a)
      (from-below : (a b : ℕ) → R a b → a < m) (below : Below m R) where
    -- the test says what is meant
    pub within-means : (n a : ℕ) → T (within m r set n a) ↔ Within R S n a
    unfolding within Within
    within-means zero a = (λ x. x, λ x. x)
    within-means (suc n) a =
        or_is (within m r set n a) (any m (λ b. r a b && (set b || within m r set n b))) (within-means n a)
        (both (any-is m (λ b. r a b && (set b || within m r set n b)) (λ b. and_is (r a b) (set b || within m r set n b) (is-r a b) (or_is (set b) (within m r set n b) (is_set b) (within-means n b))))
        (λ (b, l, (x, y)). (b, x, y), λ (b, x, y). (b, below a b x, (x, y))))

    within-below : (n a : ℕ) → Within R S n a → a < m
    within-below zero a x = absurd (within_none a x)
    within-below (suc n) a x = go ((within_more n a).0 x) (within-below n a)
      where
        go : Within R S n a ⊎ ((b : ℕ) × R a b × (S b ⊎ Within R S n b)) → (Within R S n a → a < m) → a < m
        go (inl y) ih = ih y
        go (inr (b, l, _)) ih = from-below a b l

    abbrev found : ℕ → ℕ → Bool
    found n = within m r set n

    abbrev Added : ℕ → Type 0
    Added n = (a : ℕ) × (a < m) × (T (found (suc n) a) × (¬ T (found n a)))

    added? : (n : ℕ) → Settled n ⊎ Added n
    added? n = go (T? (any m new))
      where
        new : ℕ → Bool
        new a = found (suc n) a && not (found n a)

        is-new : T (any m new) ↔ Added n
        is-new = any-is m new (λ a. and_is (found (suc n) a) (not (found n a)) same (not_is (found n a) same))

        go : Dec (T (any m new)) → Settled n ⊎ Added n
        go (yes t) = inr (is-new.0 t)
        go (no t) = inl (λ a x. (within-means n a).0 (stable (found n a) (λ y. t (is-new.1 (a, within-below (suc n) a x, ((within-means (suc n) a).1 x, y))))))

    -- n rounds add n numbers, unless one of them was the last to matter
    rounds : (n : ℕ) → ((j : ℕ) × (j < n) × Settled j) ⊎ (n ≤ how_many m (found n))
    rounds zero = inr (omega arith)
    rounds (suc n) = go (rounds n) (added? n)
      where
        go : ((j : ℕ) × (j < n) × Settled j) ⊎ (n ≤ how_many m (found n)) → Settled n ⊎ Added n
            → ((j : ℕ) × (j < suc n) × Settled j) ⊎ (suc n ≤ how_many m (found (suc n)))
        go (inl (j, l, h)) _ = inl (j, omega arith, h)
        go (inr l) (inl h) = inl (n, omega arith, h)
        go (inr l) (inr (a, b, (x, y))) =
            inr (omega (arith, how_many-grows (found n) (found (suc n)) (λ k t. (within-means (suc n) k).1 (kept n k ((within-means n k).0 t))) m a b y x))

    last-round : (j : ℕ) × (j ≤ m) × Settled j
    last-round = go (rounds (suc m))
      where
        go : ((j : ℕ) × (j < suc m) × Settled j) ⊎ (suc m ≤ how_many m (found (suc m))) → (j : ℕ) × (j ≤ m) × Settled j
        go (inl (j, l, h)) = (j, omega arith, h)
        go (inr l) = absurd (omega (arith, how_many-le m (found (suc m))))

    -- so m links are as good as any number
    pub within-is-plus : (a : ℕ) → Within R S m a ↔ LeadsTo R S a
    within-is-plus a = (leads m a, λ (t, p, s). let (n, x) = some-links p s in all n x last-round)
      where
        all : (n : ℕ) → Within R S n a → (j : ℕ) × (j ≤ m) × Settled j → Within R S m a
        all n x (j, l, h) = let e : m - j + j ≡ m = omega arith in subst (λ (k : ℕ). Within R S k a) e (more-links (m - j) j a (settled j h n a x))

    -- and the set grown link by link is what the closed rows lead to
    pub within-is-closure : (a : ℕ) → T (within m r set m a) ↔ ((t : ℕ) × T (plus m r a t) × T (set t))
    within-is-closure a =
        let closed = plus-means-as m r is-r below in
        both (within-means m a) (both (within-is-plus a) (λ (t, p, s). (t, (closed a t).1 p, (is_set t).1 s), λ (t, p, s). (t, (closed a t).0 p, (is_set t).0 s)))

-- Links and members that are contained in others lead no further.
module _ (R Q : ℕ → ℕ → Type 0) (S P : ℕ → Type 0) (link : (a b : ℕ) → R a b → Q a b) (member : (a : ℕ) → S a → P a) where
  pub within-map : (n a : ℕ) → Within R S n a → Within Q P n a
  within-map zero a x = absurd (within_none R S a x)
  within-map (suc n) a x = (within_more Q P n a).1 (go ((within_more R S n a).0 x) (within-map n))
    where
      go : Within R S n a ⊎ ((b : ℕ) × R a b × (S b ⊎ Within R S n b)) → ((b : ℕ) → Within R S n b → Within Q P n b) → Within Q P n a ⊎ ((b : ℕ) × Q a b × (P b ⊎ Within Q P n b))
      go (inl y) ih = inl (ih a y)
      go (inr (b, l, inl s)) ih = inr (b, link a b l, inl (member b s))
      go (inr (b, l, inr y)) ih = inr (b, link a b l, inr (ih b y))

-- Fewer links than numbers are not enough: two numbers with a link to each other, and the way from one of them back to itself.
pub both-links : (within 2 (λ a b. not (eqb a b)) (eqb 0) 2 0 ≡ true) × (within 2 (λ a b. not (eqb a b)) (eqb 0) 1 0 ≡ false)
unfolding within any
both-links = (refl, refl)
