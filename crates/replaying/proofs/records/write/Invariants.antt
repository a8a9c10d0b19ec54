-- `replaying::records::write` meets its contract. The loop's invariant: what is written, with the records to come, is the replay, and the masks are those of the
-- full view that it has come to. Assumes nothing.
use Prim.Native.Nat.{◌-◌}
use mathlib.Core.Path.{◌≡◌}
use Rattle.trace.specs.Result.{taken}
use Rattle.trace.specs.Format.{Trace, decode}
use Rattle.replaying.proofs.Standing.{Written}
use Rattle.replaying.proofs.records.write.Given as goal

abbrev pub invariant-loop : goal.invariant-loop
invariant-loop l =
    (t : Trace) → decode l.file ≡ taken t → Written l.file l.initial.buffer l.h t (l.h.records - l.counter) l.at l.to l.buffer l.full
