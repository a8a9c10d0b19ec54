-- `gathering::writers_seen` meets its contract. The loop's invariant: of the keys that were passed, the writers of the versions that their masks hold are
-- found. Assumes nothing.
use mathlib.Core.Path.{◌≡◌}
use Rattle.store.specs.Reading.{key_place}
use Rattle.gathering.specs.Places.{Gathers, WroteSeen}
use Rattle.gathering.proofs.writers_seen.Given as goal

abbrev pub invariant-loop-k : goal.invariant-loop-k
invariant-loop-k l = (l.at ≡ key_place l.image l.k) × Gathers l.found (WroteSeen l.image l.masks l.k)
