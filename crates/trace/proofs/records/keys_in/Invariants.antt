-- `trace::records::keys_in` meets its contract: what was counted, and what is left. Assumes nothing.
use Prim.Native.Nat.{◌+◌, ◌-◌, ◌*◌, ◌≤◌}
use mathlib.Core.Path.{◌≡◌}
use Rattle.trace.specs.Listed.{keys_after, keys_in}
use Rattle.trace.specs.Format.{operations_at}
use Rattle.trace.proofs.records.keys_in.Given as goal

abbrev pub invariant-loop-i : goal.invariant-loop-i
invariant-loop-i l = (l.count ≤ l.i) × (l.count + keys_after l.last (operations_at l.s (l.start + 8 * l.i) (l.m - l.i)) ≡ keys_in (operations_at l.s l.start l.m))
