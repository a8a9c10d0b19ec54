-- Why `streams::read_some` ends: a turn that reads no byte is one of so many.
use Rattle.std.proofs.Common.{◌≡◌, length}
use Rattle.streams.proofs.read_some.Given as goal

abbrev pub invariant-loop-n : goal.invariant-loop-n
invariant-loop-n g l = length l.buffer ≡ length l.fn.buffer

abbrev pub decreases-loop-n : goal.decreases-loop-n
decreases-loop-n g l = l.left
