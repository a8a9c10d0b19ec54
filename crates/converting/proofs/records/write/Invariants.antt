-- `converting::records::write` meets its contract. The loop's invariant: what is written, with the records to come, is the file. Assumes nothing.
use Prim.Native.Nat.{◌-◌}
use mathlib.Core.Path.{◌≡◌}
use Rattle.trace.specs.Result.{taken}
use Rattle.trace.specs.Format.{Trace, decode}
use Rattle.converting.specs.Answers.{edition_of}
use Rattle.converting.proofs.Going.{Written}
use Rattle.converting.proofs.records.write.Given as goal

abbrev pub invariant-loop : goal.invariant-loop
invariant-loop l =
    (t : Trace) → decode l.file ≡ taken t → Written (edition_of l.edition) l.file l.initial.buffer l.h t (l.h.records - l.counter) l.at l.to l.buffer l.views
