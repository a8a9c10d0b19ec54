-- The bench's bare images are well-formed and get the answers of the table, by computation. Assumes nothing.
use mathlib.Core.Path.{◌≡◌, refl}
use mathlib.Core.Bool.{true}
use mathlib.Core.List.{map}
use Rattle.search.specs.Choose.{choose, when, or_else}
use Rattle.search.specs.Search.{any, least}
use Rattle.sets.specs.Set.{without}
use Rattle.store.specs.Links.{WR, WW, RW}
use Rattle.ordering.specs.Shape.{every, well_formed}
use Rattle.ordering.specs.Links.{session_order, linked_by, links}
use Rattle.ordering.specs.Placing.{ready, lowest_ready, and_then, place_next, placed_with}
use Rattle.ordering.specs.Ring.{member, or_zero, as_far_as, walk_back}
use Rattle.ordering.specs.Judge.{order_unless, order_or_ring, judge_bare}
use Rattle.ordering.specs.Examples.{Row, table}

pub examples-well-formed : map (λ (r : Row). well_formed r.image) table ≡ map (λ (r : Row). true) table
unfolding well_formed every any without
examples-well-formed = refl

pub examples-shown : map (λ (r : Row). judge_bare r.image) table ≡ map (λ (r : Row). r.shown) table
unfolding judge_bare order_or_ring order_unless least or_else when choose place_next placed_with and_then lowest_ready ready any links linked_by session_order WR WW RW member as_far_as or_zero walk_back
examples-shown = refl
