-- `reading::shape::entries_fit` meets its contract. The loop's invariant: the entries that were passed fit. Assumes nothing.
use mathlib.Core.Path.{◌≡◌}
use Rattle.reading.specs.Parts.{entry_place}
use Rattle.reading.proofs.Entries.{EntriesFit}
use Rattle.reading.proofs.shape.entries_fit.Given as goal

abbrev pub invariant-loop-t : goal.invariant-loop-t
invariant-loop-t l = (l.at ≡ entry_place l.step l.t) × EntriesFit l.image l.step l.t
