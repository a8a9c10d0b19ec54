-- The answer for a bare image: an order, or a ring and then no order; and an order exists exactly where there is no ring. Assumes nothing.
use Prim.Native.Nat.{ℕ, suc}
use mathlib.Core.Path.{◌≡◌, refl, subst}
use mathlib.Core.Logic.{◌↔◌}
use mathlib.Core.Option.{Option, some, none}
use mathlib.Core.List.{List, [], ◌∷◌}
use lib.Dec.{T}
use Rattle.search.specs.Search.{least}
use Rattle.search.proofs.Search.{Least, found, missed, least-is}
use Rattle.relations.specs.Relation.{Relation, Plus, one, more}
use Rattle.relations.specs.Walk.{Walk, end, link}
use Rattle.relations.proofs.Walks.{plus-map}
use Rattle.relations.proofs.Rings.{walk-plus}
use Rattle.store.specs.Store.{CommitNumber, Store}
use Rattle.store.specs.Links.{LinkKind}
use Rattle.ordering.specs.Links.{linked_by, links, Between}
use Rattle.ordering.specs.Order.{EachOnce}
use Rattle.ordering.specs.Placing.{unplaced, lowest_ready_first, placed_with}
use Rattle.ordering.specs.Ring.{is_ring}
use Rattle.ordering.specs.Judge.{Shown, order, ring, order_unless, order_or_ring, judge_bare}
use Rattle.ordering.specs.Claim.{HasOrder, HasRing, LowestReadyFirst, Holds, of-order, of-ring}
use Rattle.ordering.proofs.Lists.{each-once-length}
use Rattle.ordering.proofs.Placing.{NoneBackwards, none-backwards, lowest-first, all_placed, none-ready}
use Rattle.ordering.proofs.Rings.{ring-walk, ring-commits, ring-found}
use Rattle.ordering.proofs.Shape.{WellFormed, some-kind, of-kind, links-between}
use Rattle.ordering.proofs.Ordered.{order-acyclic}
use Rattle.ordering.proofs.Serial.{serial-order}

-- what the answer for any links between n commits shows
pub data Shows (n : ℕ) (r : Relation) : Shown → Type 0 where
  an-order : {xs : List ℕ} → EachOnce n xs → NoneBackwards r xs → LowestReadyFirst n r xs → Shows n r (order xs)
  a-ring : {xs : List ℕ} → T (is_ring r xs) → Shows n r (ring xs)

pub order-or-ring : (n : ℕ) (r : Relation) → Between n r → Shows n r (order_or_ring n r)
unfolding order_or_ring order_unless
order-or-ring n r between = go (least (suc n) (unplaced n placed)) (least-is (suc n) (unplaced n placed))
  where
    placed : ℕ
    placed = placed_with (lowest_ready_first n r) 0

    go : (o : Option ℕ) → Least (suc n) (unplaced n placed) o → Shows n r (order_unless n r (lowest_ready_first n r) o)
    go none (missed m) = an-order (all_placed n r between m) (none-backwards n r between) (lowest-first n r between)
    go (some c) (found l t m) = a-ring (ring-found r n between placed (none-ready n r between) c t)

module _ (s : Store) (h : WellFormed s) where
  -- where there is an order there is no ring
  pub order-no-ring : HasOrder s → ¬ HasRing s
  order-no-ring (xs, o) (kind, kinds, a, w) = order-acyclic s h xs o a (plus-map (λ x y l. of-kind s l.0 x y l.1) (walk-plus w))

  -- a closed walk of links is a ring, with the kinds of its links
  kinds-of : {a b : CommitNumber} → Plus (λ x y. T (links s x y)) a b → (kind : LinkKind) × (kinds : List LinkKind) × Walk (λ k x y. T (linked_by s k x y)) (kind ∷ kinds) a b
  kinds-of (one t) = let x = some-kind s _ _ t in (x.0, [], link x.1 end)
  kinds-of (more t p) = let x = some-kind s _ _ t in let y = kinds-of p in (x.0, y.0 ∷ y.1, link x.1 y.2)

  pub ring_of : (xs : List CommitNumber) → T (is_ring (links s) xs) → HasRing s
  ring_of xs t = let x = ring-walk (links s) xs t in let y = kinds-of x.1 in (y.0, y.1, x.0, y.2)

  -- the answer
  pub judge-bare : Holds s (judge_bare s)
  unfolding judge_bare
  judge-bare = go (order-or-ring s.commits (links s) (links-between s h))
    where
      go : {a : Shown} → Shows s.commits (links s) a → Holds s a
      go (an-order {xs} once back lowest) = of-order (serial-order s h xs once back) lowest (each-once-length s.commits xs once)
      go (a-ring {xs} t) = of-ring t (ring-commits s.commits (links s) (links-between s h) xs t).1 (λ o. order-no-ring o (ring_of xs t))

  -- an order exists exactly where there is no ring
  pub order-exactly : HasOrder s ↔ (¬ HasRing s)
  order-exactly = (order-no-ring, λ n. go n judge-bare)
    where
      go : ¬ HasRing s → {a : Shown} → Holds s a → HasOrder s
      go n (of-order {xs} o f l) = (xs, o)
      go n (of-ring {xs} t l no-order) = absurd (n (ring_of xs t))

  -- "code 19 is given exactly when none exists"
  pub ring-exactly : ((xs : List CommitNumber) × (judge_bare s ≡ ring xs)) ↔ (¬ HasOrder s)
  ring-exactly = (λ (xs, e) o. no-ring (subst (Holds s) e judge-bare) o, λ n. go n (judge_bare s) refl judge-bare)
    where
      no-ring : {xs : List CommitNumber} → Holds s (ring xs) → HasOrder s → ⊥
      no-ring (of-ring t l n) o = n o

      go : ¬ HasOrder s → (a : Shown) → judge_bare s ≡ a → Holds s a → (xs : List CommitNumber) × (judge_bare s ≡ ring xs)
      go n (order xs) e (of-order o f l) = absurd (n (xs, o))
      go n (ring xs) e j = (xs, e)
