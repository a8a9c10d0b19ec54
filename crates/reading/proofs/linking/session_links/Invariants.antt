-- `reading::linking::session_links` meets its contract. The loop's invariant: the entries that were passed have their links. Assumes nothing.
use mathlib.Core.Path.{◌≡◌}
use Rattle.reading.specs.Parts.{entry_place}
use Rattle.reading.specs.Gains.{Gains}
use Rattle.reading.proofs.Sessions.{SessionLinks}
use Rattle.reading.proofs.linking.session_links.Given as goal

abbrev pub invariant-loop-t : goal.invariant-loop-t
invariant-loop-t l = (l.at ≡ entry_place l.step l.t) × Gains l.initial.rows l.rows (SessionLinks l.image l.step l.count l.t)
