-- Why `streams::write_whole` ends: a turn writes a byte, or is one of so many that write none.
use Rattle.std.proofs.Common.{◌≤◌, length}
use Rattle.streams.proofs.Turns.{patience, turns}
use Rattle.streams.proofs.write_whole.Given as goal

abbrev pub invariant-loop-done : goal.invariant-loop-done
invariant-loop-done g l = (l.done ≤ length l.text) × (l.left ≤ patience)

abbrev pub decreases-loop-done : goal.decreases-loop-done
decreases-loop-done g l = turns (length l.text) l.done l.left
