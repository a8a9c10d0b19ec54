-- `paths::point` meets its contract. The loop's invariant: the rows of the members that are not left have gained the sets. Assumes nothing.
use Prim.Native.Nat.{ℕ}
use lib.Dec.{T}
use Rattle.sets.specs.Set.{has}
use Rattle.paths.specs.Added.{Joined}
use Rattle.paths.proofs.Joined.{RowsTaken}
use Rattle.paths.proofs.point.Given as goal

abbrev pub invariant-loop-t : goal.invariant-loop-t
invariant-loop-t l = ((t : ℕ) → T (has l.t-iterator.0 t) → T (has l.over t)) × Joined (RowsTaken l.over l.first l.into l.t-iterator.0) l.initial.links l.links
