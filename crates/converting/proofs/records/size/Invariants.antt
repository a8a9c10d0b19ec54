-- `converting::records::size` meets its contract. The loop's invariant: what is reckoned, with the records to come, is the length of the file. Assumes nothing.
use Prim.Native.Nat.{◌+◌, ◌-◌, ◌*◌, ◌≤◌}
use mathlib.Core.Path.{◌≡◌}
use Rattle.trace.specs.Result.{taken}
use Rattle.trace.specs.Format.{Trace, decode}
use Rattle.converting.specs.Answers.{edition_of}
use Rattle.converting.specs.Parts.{longest_record}
use Rattle.converting.proofs.Going.{Reckoned}
use Rattle.converting.proofs.records.size.Given as goal

abbrev pub invariant-loop : goal.invariant-loop
invariant-loop l =
    (l.sum ≤ 12 + longest_record * l.counter)
    × ((t : Trace) → decode l.file ≡ taken t → Reckoned (edition_of l.edition) l.file l.h t (l.h.records - l.counter) l.at l.sum l.views)
