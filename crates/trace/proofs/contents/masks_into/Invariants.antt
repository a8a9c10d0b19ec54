-- `trace::contents::masks_into` meets its contract: the masks passed are those that stand at the place. Assumes nothing.
use Prim.Native.Nat.{ℕ, ◌+◌, ◌*◌, ◌<◌}
use mathlib.Core.Path.{◌≡◌}
use lib.ListN.{get_or}
use Rattle.endian.specs.Endian.{le_at}
use Rattle.trace.proofs.contents.masks_into.Given as goal

abbrev pub invariant-loop-k : goal.invariant-loop-k
invariant-loop-k l = (j : ℕ) → j < l.k → get_or l.mask-items j 0 ≡ le_at l.s (l.start + 8 * j) 8
