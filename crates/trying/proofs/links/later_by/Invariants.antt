-- `trying::links::later_by` meets its contract. The loop's invariant: none of the later versions passed is by a member. Assumes nothing.
use Prim.Native.Nat.{ℕ, ◌≤◌, ◌<◌}
use lib.Dec.{T}
use Rattle.sets.specs.Set.{has}
use Rattle.trying.specs.Recorded.{writer_at}
use Rattle.trying.proofs.links.later_by.Given as goal

abbrev pub invariant-loop-j : goal.invariant-loop-j
invariant-loop-j l = (m : ℕ) → l.initial.j ≤ m → m < l.j → ¬ T (has l.set (writer_at l.versions l.key m))
