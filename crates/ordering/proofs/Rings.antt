-- The walk back finds a ring, for any links between n commits where each commit that is left awaits another that is left; and a ring
-- is a closed walk of links. Assumes nothing.
use Prim.Native.Nat.{ℕ, zero, suc, ◌+◌, ◌≤◌, ◌<◌}
use mathlib.Core.Path.{sym, subst}
use mathlib.Core.Bool.{false, ◌||◌, not}
use mathlib.Core.Logic.{◌⊎◌, inl, inr}
use mathlib.Core.Option.{Option, some, none}
use mathlib.Core.List.{List, [], ◌∷◌}
use native.Mathlib.Omega.{arith}
use lib.Dec.{T, eqb, T_not, not_T}
use lib.ListN.{length}
use Rattle.search.specs.Choose.{choose}
use Rattle.search.specs.Search.{least}
use Rattle.search.proofs.Choose.{choose_yes, choose_no, choose-ind}
use Rattle.search.proofs.Tests.{T?, and_left, and_right, and_both, or_left, or_right, or_cases, eq_is}
use Rattle.search.proofs.Search.{any_out, Least, found, missed, least-is}
use Rattle.sets.specs.Set.{Set, has}
use Rattle.relations.specs.Relation.{Relation, Plus, one, more}
use Rattle.ordering.specs.Links.{Between}
use Rattle.ordering.specs.Placing.{unplaced, awaited, ready}
use Rattle.ordering.specs.Ring.{member, distinct, chain, is_ring, or_zero, step_back, as_far_as, walk_back, ring_from}
use Rattle.ordering.proofs.Lists.{OnlyCommits, distinct-places, none-twice-few}
use Rattle.ordering.proofs.Placing.{left_is, not-ready}

-- ---- a ring is a closed walk

chain-walk : (r : Relation) (a : ℕ) (bs : List ℕ) (z : ℕ) → T (chain r a bs z) → Plus (λ x y. T (r x y)) a z
unfolding chain
chain-walk r a [] z t = one t
chain-walk r a (b ∷ bs) z t = more (and_left (r a b) (chain r b bs z) t) (chain-walk r b bs z (and_right (r a b) (chain r b bs z) t))

pub ring-walk : (r : Relation) (cs : List ℕ) → T (is_ring r cs) → (c : ℕ) × Plus (λ x y. T (r x y)) c c
unfolding is_ring
ring-walk r [] t = absurd t
ring-walk r (c ∷ cs) t = (c, chain-walk r c cs c (and_right (distinct (c ∷ cs)) (chain r c cs c) t))

-- its commits are among those that the links are between, so they are no more than those
module _ (n : ℕ) (r : Relation) (between : Between n r) where
  chain-commits : (a : ℕ) (bs : List ℕ) (z : ℕ) → T (chain r a bs z) → OnlyCommits n (a ∷ bs)
  unfolding chain
  chain-commits a [] z t zero l = (between a z t).0
  chain-commits a [] z t (suc i) l = absurd (omega arith)
  chain-commits a (b ∷ bs) z t zero l = (between a b (and_left (r a b) (chain r b bs z) t)).0
  chain-commits a (b ∷ bs) z t (suc i) l = chain-commits b bs z (and_right (r a b) (chain r b bs z) t) i (omega arith)

  pub ring-commits : (cs : List ℕ) → T (is_ring r cs) → OnlyCommits n cs × (length cs ≤ n)
  unfolding is_ring
  ring-commits [] t = absurd t
  ring-commits (c ∷ cs) t =
      let only = chain-commits c cs c (and_right (distinct (c ∷ cs)) (chain r c cs c) t) in
      (only, none-twice-few n (c ∷ cs) only (distinct-places (c ∷ cs) (and_left (distinct (c ∷ cs)) (chain r c cs c) t)))

-- ---- a way back that comes again to c, cut at c

up_to-member : (c y : ℕ) (xs : List ℕ) → T (member y (as_far_as c xs)) → T (member y xs)
unfolding as_far_as member
up_to-member c y [] t = t
up_to-member c y (x ∷ xs) t = go (up_to-member c y xs) (or_cases (eqb y x) (member y (choose (eqb c x) [] (as_far_as c xs))) t)
  where
    Within : List ℕ → Type 0
    Within ys = T (member y ys) → T (member y xs)

    go : Within (as_far_as c xs) → T (eqb y x) ⊎ T (member y (choose (eqb c x) [] (as_far_as c xs))) → T (eqb y x || member y xs)
    go ih (inl e) = or_left (eqb y x) (member y xs) e
    go ih (inr m) = or_right (eqb y x) (member y xs) (choose-ind Within (eqb c x) [] (as_far_as c xs) (λ e m. absurd m) (λ e. ih) m)

up_to-distinct : (c : ℕ) (xs : List ℕ) → T (distinct xs) → T (distinct (as_far_as c xs))
unfolding as_far_as distinct member
up_to-distinct c [] t = t
up_to-distinct c (x ∷ xs) t =
    let rest = choose (eqb c x) [] (as_far_as c xs) in
    and_both (not (member x rest)) (distinct rest)
    (not_T (member x rest) (λ m. T_not (member x xs) (and_left (not (member x xs)) (distinct xs) t)
    (choose-ind (λ (ys : List ℕ). T (member x ys) → T (member x xs)) (eqb c x) [] (as_far_as c xs) (λ e u. absurd u) (λ e. up_to-member c x xs) m)))
    (choose-ind (λ (ys : List ℕ). T (distinct ys)) (eqb c x) [] (as_far_as c xs) (λ e. tt) (λ e. up_to-distinct c xs (and_right (not (member x xs)) (distinct xs) t)))

module _ (r : Relation) where
  -- a link leads from x to the first of the list, and from each of it to the next
  abbrev Linked : ℕ → List ℕ → Type 0
  Linked x [] = Unit {0}
  Linked x (y ∷ ys) = T (r x y) × Linked y ys

  cut-chain : (c z x : ℕ) (xs : List ℕ) → Linked x xs → T (member c (x ∷ xs)) → T (r c z) → T (chain r x (choose (eqb c x) [] (as_far_as c xs)) z)
  unfolding chain member as_far_as
  cut-chain c z x [] l m t = go (or_cases (eqb c x) false m)
    where
      go : T (eqb c x) ⊎ ⊥ → T (chain r x (choose (eqb c x) [] []) z)
      go (inl e) =
          subst (λ (ys : List ℕ). T (chain r x ys z)) (sym (choose_yes (eqb c x) [] [] e)) (subst (λ (y : ℕ). T (r y z)) ((eq_is c x).0 e) t)
      go (inr w) = elim w [ ]
  cut-chain c z x (y ∷ ys) l m t = go (T? (eqb c x)) (cut-chain c z y ys l.1)
    where
      rest : List ℕ
      rest = choose (eqb c y) [] (as_far_as c ys)

      later : T (eqb c x) ⊎ T (member c (y ∷ ys)) → ¬ T (eqb c x) → T (member c (y ∷ ys))
      later (inl e) n = absurd (n e)
      later (inr u) n = u

      go : Dec (T (eqb c x)) → (T (member c (y ∷ ys)) → T (r c z) → T (chain r y rest z)) → T (chain r x (choose (eqb c x) [] (y ∷ rest)) z)
      go (yes e) ih =
          subst (λ (ws : List ℕ). T (chain r x ws z)) (sym (choose_yes (eqb c x) [] (y ∷ rest) e)) (subst (λ (w : ℕ). T (r w z)) ((eq_is c x).0 e) t)
      go (no n) ih =
          subst (λ (ws : List ℕ). T (chain r x ws z)) (sym (choose_no (eqb c x) [] (y ∷ rest) (not_T (eqb c x) n)))
          (and_both (r x y) (chain r y rest z) l.0 (ih (later (or_cases (eqb c x) (member c (y ∷ ys)) m) n) t))

  -- ---- the walk

  module _ (n : ℕ) (between : Between n r) (placed : Set) (none-ready : (x : ℕ) → ¬ T (ready n r placed x)) where
    -- a step back leads to a commit that is left
    back_is : (x : ℕ) → T (unplaced n placed x) → T (r (step_back n r placed x) x) × T (unplaced n placed (step_back n r placed x))
    unfolding or_zero
    back_is x t = go (least (suc n) (awaited r placed x)) (least-is (suc n) (awaited r placed x)) (any_out (suc n) (awaited r placed x) (not-ready n r between placed x t (none-ready x)))
      where
        go : (o : Option ℕ) → Least (suc n) (awaited r placed x) o → (a : ℕ) × (a < suc n) × T (awaited r placed x a)
            → T (r (or_zero o) x) × T (unplaced n placed (or_zero o))
        go none (missed h) (a, l, u) = absurd (h a l u)
        go (some a) (found l u h) w =
            let link = and_left (r a x) (not (has placed a)) u in
            (link, (left_is n placed a).1 ((between a x link).0, T_not (has placed a) (and_right (r a x) (not (has placed a)) u)))

    abbrev f : ℕ → ℕ
    f = step_back n r placed

    walk-ring : (m x : ℕ) (xs : List ℕ) → n ≤ m + length xs → T (unplaced n placed x) → OnlyCommits n (x ∷ xs) → Linked x xs → T (distinct (x ∷ xs))
        → T (is_ring r (walk_back m f x xs))
    unfolding walk_back is_ring as_far_as distinct
    walk-ring zero x xs far t only l d =
        let few : suc (length xs) ≤ n = none-twice-few n (x ∷ xs) only (distinct-places (x ∷ xs) d) in absurd (omega arith)
    walk-ring (suc m) x xs far t only l d =
        choose-ind (λ (ys : List ℕ). T (is_ring r ys)) (member (f x) (x ∷ xs)) (as_far_as (f x) (x ∷ xs)) (walk_back m f (f x) (x ∷ xs))
        (λ u. and_both (distinct (as_far_as (f x) (x ∷ xs))) _ (up_to-distinct (f x) (x ∷ xs) d) (cut-chain (f x) x x xs l u (back_is x t).0))
        (λ u. walk-ring m (f x) (x ∷ xs) (omega arith) (back_is x t).1 (only-more u) ((back_is x t).0, l) (distinct_more u))
      where
        only-more : T (not (member (f x) (x ∷ xs))) → OnlyCommits n (f x ∷ (x ∷ xs))
        only-more u zero i = ((left_is n placed (f x)).0 (back_is x t).1).0
        only-more u (suc j) i = only j (omega arith)

        distinct_more : T (not (member (f x) (x ∷ xs))) → T (distinct (f x ∷ (x ∷ xs)))
        distinct_more u = and_both (not (member (f x) (x ∷ xs))) (distinct (x ∷ xs)) u d

    -- from a commit that is left the walk back finds a ring
    pub ring-found : (c : ℕ) → T (unplaced n placed c) → T (is_ring r (ring_from n r placed c))
    unfolding distinct member
    ring-found c t = walk-ring n c [] (omega arith) t only tt tt
      where
        only : OnlyCommits n (c ∷ [])
        only zero l = ((left_is n placed c).0 t).0
        only (suc i) l = absurd (omega arith)
