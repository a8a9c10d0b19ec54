-- `paths::walk` meets its contract. The loop's invariant: the walk so far, of each store that the array keeps, and that no number is both taken
-- and to be taken. The measure: the numbers taken, as a word, make a larger number at each round. Assumes nothing.
use Prim.Native.Nat.{ℕ, ◌-◌, ◌*◌, ◌^◌, ◌<◌}
use lib.Dec.{T}
use Rattle.sets.specs.Set.{has}
use Rattle.store.specs.Limits.{numbers}
use Rattle.store.specs.Store.{Store}
use Rattle.state.specs.Keeps.{IsSet, Step, KeepsLinks}
use Rattle.state.specs.Rows.{InRows}
use Rattle.paths.proofs.Walked.{Walked}
use Rattle.paths.proofs.walk.Given as goal

abbrev pub invariant-loop-left : goal.invariant-loop-left
invariant-loop-left l =
    (l.left < 2 ^ 64) × ((t : ℕ) → T (has l.done t) → ¬ T (has l.left t))
    × ((s : Store) → KeepsLinks s l.links → IsSet l.first (InRows l.links (numbers * l.kind) l.set) → Walked (Step l.kind s) l.set l.all l.done l.left)

abbrev pub decreases-loop-left : goal.decreases-loop-left
decreases-loop-left l = 2 ^ 64 - l.done
