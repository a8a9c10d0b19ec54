-- `reading::shape::is_new` meets its contract. The loop's invariant: no entry that was passed has the client and the number. Assumes nothing.
use mathlib.Core.Path.{◌≡◌}
use Rattle.reading.specs.Parts.{entry_place}
use Rattle.reading.proofs.Entries.{NoneBears}
use Rattle.reading.proofs.shape.is_new.Given as goal

abbrev pub invariant-loop : goal.invariant-loop
invariant-loop l = (l.place ≡ entry_place l.step l.counter) × NoneBears l.image l.step l.counter l.client l.session
