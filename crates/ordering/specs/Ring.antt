-- A ring as the list of its commits, "the ring in the order of its links", and one way to find it: "The choice of ring is left free" (02, E9). For any
-- links. Assumes nothing.
use Rattle.std.specs.Prelude.{ℕ, zero, suc, Bool, true, false, ◌&&◌, ◌||◌, not, List, [], ◌∷◌, eqb}
use Rattle.std.proofs.Math.Option.{Option, some, none}
use Rattle.search.specs.Choose.{choose}
use Rattle.search.specs.Search.{least}
use Rattle.sets.specs.Set.{Set}
use Rattle.relations.specs.Relation.{Relation}
use Rattle.store.specs.Store.{CommitNumber}
use Rattle.ordering.specs.Placing.{awaited}

-- ---- what a ring is

unfoldable pub member : CommitNumber → List CommitNumber → Bool
member c [] = false
member c (x ∷ xs) = eqb c x || member c xs

-- it "names no commit twice"
unfoldable pub distinct : List CommitNumber → Bool
distinct [] = true
distinct (x ∷ xs) = not (member x xs) && distinct xs

-- from a there is a link to the first of the list, from each of the list to the next, and from the last of it to z
unfoldable pub chain : Relation → CommitNumber → List CommitNumber → CommitNumber → Bool
chain r a [] z = r a z
chain r a (b ∷ bs) z = r a b && chain r b bs z

-- one or more commits, none twice, each with a link to the next, and the last to the first
unfoldable pub is_ring : Relation → List CommitNumber → Bool
is_ring r [] = false
is_ring r (c ∷ cs) = distinct (c ∷ cs) && chain r c cs c

-- ---- where no commit is ready, each that is not placed has a link from another such: back along these links, until a commit comes again

-- the number found, or 0
unfoldable pub or_zero : Option CommitNumber → CommitNumber
or_zero none = 0
or_zero (some c) = c

-- the lowest-numbered commit that has a link to c and is not placed
abbrev pub step_back : ℕ → Relation → Set → CommitNumber → CommitNumber
step_back n r placed c = or_zero (least (suc n) (awaited r placed c))

-- a list as far as c, and c with it
unfoldable pub as_far_as : CommitNumber → List CommitNumber → List CommitNumber
as_far_as c [] = []
as_far_as c (x ∷ xs) = x ∷ choose (eqb c x) [] (as_far_as c xs)

-- up to m steps f back from x; the commits that were passed on the way to x are xs, the last one first, so that x ∷ xs is in the order of its links
unfoldable pub walk_back : ℕ → (CommitNumber → CommitNumber) → CommitNumber → List CommitNumber → List CommitNumber
walk_back zero f x xs = x ∷ xs
walk_back (suc m) f x xs = choose (member (f x) (x ∷ xs)) (as_far_as (f x) (x ∷ xs)) (walk_back m f (f x) (x ∷ xs))

-- the ring that is found from commit c, which is not placed
abbrev pub ring_from : ℕ → Relation → Set → CommitNumber → List CommitNumber
ring_from n r placed c = walk_back n (step_back n r placed) c []
