-- `reading::linking::before` meets its contract. The loop's invariant: those that precede are found among the entries that were passed. Assumes nothing.
use mathlib.Core.Path.{◌≡◌}
use Rattle.reading.specs.Parts.{entry_place}
use Rattle.reading.proofs.Sessions.{FoundBelow}
use Rattle.reading.proofs.linking.before.Given as goal

abbrev pub invariant-loop-a : goal.invariant-loop-a
invariant-loop-a l = (l.place ≡ entry_place l.step l.a) × FoundBelow l.image l.step l.client l.session l.a l.found
