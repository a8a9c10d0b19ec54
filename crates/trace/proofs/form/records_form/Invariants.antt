-- `trace::form::records_form`: the reader stands at the next record, and what those that are left come to, all come to. Assumes nothing.
use Rattle.std.proofs.Common.{◌≡◌, ◌+◌, ◌-◌}
use Rattle.trace.specs.Format.{entries_from}
use Rattle.trace.specs.Meaning.{header_of}
use Rattle.trace.proofs.Pass.{InTurn}
use Rattle.trace.proofs.form.records_form.Given as goal

abbrev pub invariant-loop-number : goal.invariant-loop-number
invariant-loop-number l =
    (l.r.src.now ≡ l.s)
    × InTurn l.s l.h (entries_from l.s (header_of l.h) (l.h.records + 1 - l.index) l.at l.index l.commits) (l.h.records + 1 - l.number) l.r.at l.number l.made
