-- The tests of specs/Relation.antt say what 001 means by `R ∪ Q`, `R ; Q`, `R ; Q?` and `R+`, for any relations: where a test
-- says what a relation means, so does the test made of it. What passes through a number below n needs links that lead below n. Assumes nothing.
use Prim.Native.Nat.{ℕ, zero, suc, ◌<◌}
use mathlib.Core.Path.{◌≡◌}
use mathlib.Core.Bool.{◌&&◌, ◌||◌}
use mathlib.Core.Logic.{◌⊎◌, inl, inr, ◌↔◌}
use native.Mathlib.Omega.{arith}
use native.Mathlib.Decide.{ℕ_discrete}
use lib.Dec.{T}
use Rattle.search.specs.Search.{any}
use Rattle.search.proofs.Tests.{same, and_is, or_is}
use Rattle.search.proofs.Search.{any-is}
use Rattle.relations.specs.Relation.{Relation, union, compose, then_maybe, plus, ThenMaybe, alone, followed, Plus, one, more}
use Rattle.relations.proofs.Walks.{plus-append, plus-map}

-- a test says what a relation means
abbrev pub Means : Relation → (ℕ → ℕ → Type 0) → Type 0
Means r R = (a b : ℕ) → T (r a b) ↔ R a b

-- every link leads to a number below n
abbrev pub Below : ℕ → (ℕ → ℕ → Type 0) → Type 0
Below n R = (a b : ℕ) → R a b → b < n

pub then_maybe-below : {R Q : ℕ → ℕ → Type 0} (n : ℕ) → Below n R → Below n Q → Below n (ThenMaybe R Q)
then_maybe-below n f g a b (alone r) = f a b r
then_maybe-below n f g a b (followed r q) = g _ b q

module _ {R Q : ℕ → ℕ → Type 0} (r q : Relation) (is-r : Means r R) (is-q : Means q Q) where
  pub union-means : Means (union r q) (λ a b. R a b ⊎ Q a b)
  unfolding union
  union-means a b = or_is (r a b) (q a b) (is-r a b) (is-q a b)

  module _ (n : ℕ) (below : Below n R) where
    pub compose-means : Means (compose n r q) (λ a b. (c : ℕ) × R a c × Q c b)
    unfolding compose
    compose-means a b = (λ t. let h = w.0 t in (h.0, h.2.0, h.2.1), λ (c, x, y). w.1 (c, below a c x, (x, y)))
      where
        w : T (any n (λ c. r a c && q c b)) ↔ ((c : ℕ) × (c < n) × (R a c × Q c b))
        w = any-is n (λ c. r a c && q c b) (λ c. and_is (r a c) (q c b) (is-r a c) (is-q c b))

    pub then_maybe-means : Means (then_maybe n r q) (ThenMaybe R Q)
    unfolding then_maybe union
    then_maybe-means a b = (λ t. into (w.0 t), λ s. w.1 (out s))
      where
        w : T (r a b || compose n r q a b) ↔ (R a b ⊎ ((c : ℕ) × R a c × Q c b))
        w = or_is (r a b) (compose n r q a b) (is-r a b) (compose-means a b)

        into : R a b ⊎ ((c : ℕ) × R a c × Q c b) → ThenMaybe R Q a b
        into (inl x) = alone x
        into (inr (c, x, y)) = followed x y

        out : ThenMaybe R Q a b → R a b ⊎ ((c : ℕ) × R a c × Q c b)
        out (alone x) = inl x
        out (followed x y) = inr (_, x, y)

module _ (r : Relation) where
  -- what `plus` says when one number more may be passed
  data Hop (m a b : ℕ) : Type 0 where
    direct : T (plus m r a b) → Hop m a b
    through : T (plus m r a m) → T (plus m r m b) → Hop m a b

  hop-is : (m a b : ℕ) → T (plus (suc m) r a b) ↔ Hop m a b
  unfolding plus
  hop-is m a b = (λ t. into (w.0 t), λ h. w.1 (out h))
    where
      w : T (plus (suc m) r a b) ↔ (T (plus m r a b) ⊎ (T (plus m r a m) × T (plus m r m b)))
      w = or_is (plus m r a b) (plus m r a m && plus m r m b) same (and_is (plus m r a m) (plus m r m b) same same)

      into : T (plus m r a b) ⊎ (T (plus m r a m) × T (plus m r m b)) → Hop m a b
      into (inl x) = direct x
      into (inr (x, y)) = through x y

      out : Hop m a b → T (plus m r a b) ⊎ (T (plus m r a m) × T (plus m r m b))
      out (direct x) = inl x
      out (through x y) = inr (x, y)

  walk_of-plus : (m a b : ℕ) → T (plus m r a b) → Plus (λ x y. T (r x y)) a b
  unfolding plus
  walk_of-plus zero a b t = one t
  walk_of-plus (suc m) a b t = go ((hop-is m a b).0 t) (walk_of-plus m)
    where
      go : Hop m a b → ((x y : ℕ) → T (plus m r x y) → Plus (λ x y. T (r x y)) x y) → Plus (λ x y. T (r x y)) a b
      go (direct x) walk = walk a b x
      go (through x y) walk = plus-append (walk a m x) (walk m b y)

  -- what leads to the last number that may be passed, or from it, does so without passing it
  to_last : {m a : ℕ} → Hop m a m → T (plus m r a m)
  to_last (direct x) = x
  to_last (through x y) = x

  from_last : {m b : ℕ} → Hop m m b → T (plus m r m b)
  from_last (direct x) = x
  from_last (through x y) = y

  -- two walks join at a number that may be passed
  plus-join : (m a c b : ℕ) → c < m → T (plus m r a c) → T (plus m r c b) → T (plus m r a b)
  plus-join zero a c b l s t = absurd (omega arith)
  plus-join (suc m) a c b l s t = go (ℕ_discrete c m) (plus-join m)
    where
      Join : Type 0
      Join = (a c b : ℕ) → c < m → T (plus m r a c) → T (plus m r c b) → T (plus m r a b)

      before : Join → c < m → Hop m a c → Hop m c b → Hop m a b
      before j k (direct x) (direct y) = direct (j a c b k x y)
      before j k (direct x) (through y z) = through (j a c m k x y) z
      before j k (through w x) (direct y) = through w (j m c b k x y)
      before j k (through w x) (through y z) = through w z

      go : Dec (c ≡ m) → Join → T (plus (suc m) r a b)
      go (yes e) j = (hop-is m a b).1 (through (to_last ((hop-is m a m).0 (rw e at s))) (from_last ((hop-is m m b).0 (rw e at t))))
      go (no n) j = (hop-is m a b).1 (before j (omega arith) ((hop-is m a c).0 s) ((hop-is m c b).0 t))

  plus-of-link : (m a b : ℕ) → T (r a b) → T (plus m r a b)
  unfolding plus
  plus-of-link zero a b t = t
  plus-of-link (suc m) a b t = (hop-is m a b).1 (direct (plus-of-link m a b t))

  plus-of-walk : (n : ℕ) → Below n (λ x y. T (r x y)) → {a b : ℕ} → Plus (λ x y. T (r x y)) a b → T (plus n r a b)
  plus-of-walk n below (one t) = plus-of-link n _ _ t
  plus-of-walk n below (more t p) = plus-join n _ _ _ (below _ _ t) (plus-of-link n _ _ t) (plus-of-walk n below p)

-- `plus` says that one or more links lead from a to b,
pub plus-means : (n : ℕ) (r : Relation) → ((a b : ℕ) → T (r a b) → b < n) → (a b : ℕ) → T (plus n r a b) ↔ Plus (λ x y. T (r x y)) a b
plus-means n r below a b = (walk_of-plus r n a b, plus-of-walk r n below)

-- and so for what its links mean.
pub plus-means-as : {R : ℕ → ℕ → Type 0} (n : ℕ) (r : Relation) → Means r R → Below n R → Means (plus n r) (Plus R)
plus-means-as n r is below a b =
    let w = plus-means n r (λ x y t. below x y ((is x y).0 t)) a b in
    (λ t. plus-map (λ x y. (is x y).0) (w.0 t), λ p. w.1 (plus-map (λ x y. (is x y).1) p))
