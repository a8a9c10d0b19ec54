-- What is shown for an image that is not misshapen (02, E9): "Code 0 shows such an order", "code 19 .. shows a ring". Assumes nothing.
use Rattle.std.specs.Prelude.{ℕ, suc, List}
use Rattle.std.proofs.Math.Option.{Option, some, none}
use Rattle.search.specs.Search.{least}
use Rattle.relations.specs.Relation.{Relation}
use Rattle.store.specs.Store.{CommitNumber, Store}
use Rattle.ordering.specs.Links.{links}
use Rattle.ordering.specs.Placing.{unplaced, lowest_ready_first, placed_with}
use Rattle.ordering.specs.Ring.{ring_from}

-- code 0, or code 19
pub data Shown : Type 0 where
  order : List CommitNumber → Shown
  ring : List CommitNumber → Shown

-- "Either goes, one byte a commit, the ring in the order of its links, into a lent buffer": the commits that are shown
abbrev pub shown_commits : Shown → List CommitNumber
shown_commits (order xs) = xs
shown_commits (ring xs) = xs

-- the commits as they were placed; or, where one of n is not placed, the ring that is found from it
unfoldable pub order_unless : ℕ → Relation → List CommitNumber → Option CommitNumber → Shown
order_unless n r cs none = order cs
order_unless n r cs (some c) = ring (ring_from n r (placed_with cs 0) c)

-- for any links between n commits: the lowest-numbered commit that is not placed in the end, if there is one, is on the way to a ring
unfoldable pub order_or_ring : ℕ → Relation → Shown
order_or_ring n r = let cs = lowest_ready_first n r in order_unless n r cs (least (suc n) (unplaced n (placed_with cs 0)))

-- for what an image says
unfoldable pub judge_bare : Store → Shown
judge_bare s = order_or_ring s.commits (links s)
