-- "the lowest-numbered ready commit first each time (ready: all commits with a link to it are placed)" (02, E9), for any links between n commits.
-- Assumes nothing.
use Rattle.std.specs.Prelude.{ℕ, zero, suc, Bool, ◌&&◌, not, List, [], ◌∷◌}
use Rattle.std.proofs.Math.Option.{Option, some, none}
use Rattle.search.specs.Search.{any, least}
use Rattle.sets.specs.Set.{Set, has, insert}
use Rattle.relations.specs.Relation.{Relation}
use Rattle.store.specs.Store.{CommitNumber}
use Rattle.ordering.specs.Links.{is_commit}

-- a commit that is not placed
abbrev pub unplaced : ℕ → Set → CommitNumber → Bool
unplaced n placed c = is_commit n c && not (has placed c)

-- a has a link to c, and is not placed
abbrev pub awaited : Relation → Set → CommitNumber → CommitNumber → Bool
awaited r placed c a = r a c && not (has placed a)

-- "ready: all commits with a link to it are placed"
unfoldable pub ready : ℕ → Relation → Set → CommitNumber → Bool
ready n r placed c = unplaced n placed c && not (any (suc n) (awaited r placed c))

-- "the lowest-numbered ready commit"
unfoldable pub lowest_ready : ℕ → Relation → Set → Option CommitNumber
lowest_ready n r placed = least (suc n) (ready n r placed)

-- a commit, where there is one, and what follows it
unfoldable pub and_then : Option CommitNumber → (CommitNumber → List CommitNumber) → List CommitNumber
and_then none f = []
and_then (some c) f = c ∷ f c

-- the lowest-numbered ready commit "first each time": it is placed, and the next is looked for, up to m times
unfoldable pub place_next : ℕ → ℕ → Relation → Set → List CommitNumber
place_next zero n r placed = []
place_next (suc m) n r placed = and_then (lowest_ready n r placed) (λ c. place_next m n r (insert c placed))

-- from the start, until none is ready: of n commits no more than n are placed
abbrev pub lowest_ready_first : ℕ → Relation → List CommitNumber
lowest_ready_first n r = place_next n n r 0

-- what is placed when the commits of a list are too
unfoldable pub placed_with : List CommitNumber → Set → Set
placed_with [] placed = placed
placed_with (c ∷ cs) placed = placed_with cs (insert c placed)
