-- `writing::copy_operations` meets its contract. The loop's invariant: the operations passed stand from `at` on, as numbers of eight bytes.
-- Assumes nothing.
use Prim.Native.Nat.{◌+◌, ◌*◌}
use mathlib.Core.Path.{◌≡◌}
use Rattle.endian.specs.Endian.{put_at, pieces}
use Rattle.writing.proofs.Operations.{word_at}
use Rattle.writing.proofs.copy_operations.Given as goal

abbrev pub invariant-loop-i : goal.invariant-loop-i
invariant-loop-i l =
    l.buffer ≡ put_at l.initial.buffer l.at (pieces l.i (λ j. word_at l.file (l.from + 8 * j)))
