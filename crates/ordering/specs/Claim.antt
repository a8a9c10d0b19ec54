-- What holds of what is shown for an image (02, E9). Assumes nothing.
use Rattle.std.specs.Prelude.{ℕ, ◌≤◌, ◌<◌, ◌≡◌, List, T, length, get_or, take}
use Rattle.std.proofs.Math.Option.{some}
use Rattle.relations.specs.Relation.{Relation}
use Rattle.relations.specs.Walk.{Ring}
use Rattle.store.specs.Store.{CommitNumber, Store}
use Rattle.store.specs.Links.{LinkKind}
use Rattle.ordering.specs.Links.{linked_by, links}
use Rattle.ordering.specs.Order.{IsOrder}
use Rattle.ordering.specs.Placing.{lowest_ready, placed_with}
use Rattle.ordering.specs.Ring.{is_ring}
use Rattle.ordering.specs.Judge.{Shown, order, ring}

-- "any order of its commits .. gives those versions, writers and readers"
abbrev pub HasOrder : Store → Type 0
HasOrder s = (xs : List CommitNumber) × IsOrder s xs

-- "a ring of SO, WR, WW or RW links", which is "a closed walk of one or more links" (01)
abbrev pub HasRing : Store → Type 0
HasRing s = (kind : LinkKind) × (kinds : List LinkKind) × (a : CommitNumber) × Ring (λ k x y. T (linked_by s k x y)) kind kinds a

-- each commit of the list is "the lowest-numbered ready commit" where those before it are placed
abbrev pub LowestReadyFirst : ℕ → Relation → List CommitNumber → Type 0
LowestReadyFirst n r xs = (j : ℕ) → j < length xs → lowest_ready n r (placed_with (take j xs) 0) ≡ some (get_or xs j 0)

-- an order: "Code 0 shows such an order, the lowest-numbered ready commit first each time", and all commits are in it; or a ring: "code 19 is given
-- exactly when none exists", "what holds of it is that it is such a ring and names no commit twice"
pub data Holds (s : Store) : Shown → Type 0 where
  of-order : {xs : List CommitNumber} → IsOrder s xs → LowestReadyFirst s.commits (links s) xs → length xs ≡ s.commits → Holds s (order xs)
  of-ring : {xs : List CommitNumber} → T (is_ring (links s) xs) → length xs ≤ s.commits → ¬ HasOrder s → Holds s (ring xs)
