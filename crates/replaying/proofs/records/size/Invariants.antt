-- `replaying::records::size` meets its contract. The loop's invariant: what is reckoned, with the records to come, is the length of the replay. Assumes nothing.
use Prim.Native.Nat.{◌-◌}
use mathlib.Core.Path.{◌≡◌}
use Rattle.trace.specs.Result.{taken}
use Rattle.trace.specs.Format.{Trace, decode}
use Rattle.replaying.proofs.Standing.{Reckoned}
use Rattle.replaying.proofs.records.size.Given as goal

abbrev pub invariant-loop : goal.invariant-loop
invariant-loop l = (t : Trace) → decode l.file ≡ taken t → Reckoned l.file l.h t (l.h.records - l.counter) l.at l.sum
