-- `reading::linking::keys_links` meets its contract. The loop's invariant: the keys that were passed have their links. Assumes nothing.
use mathlib.Core.Path.{◌≡◌}
use Rattle.store.specs.Reading.{key_place}
use Rattle.reading.specs.Gains.{Gains}
use Rattle.reading.proofs.Passing.{KeysLinks}
use Rattle.reading.proofs.linking.keys_links.Given as goal

abbrev pub invariant-loop : goal.invariant-loop
invariant-loop l = (l.at ≡ key_place l.image l.counter) × Gains l.initial.rows l.rows (KeysLinks l.image l.counter)
