-- `reading::shape::keys_fit` meets its contract. The loop's invariant: the keys that were passed fit, and `at` is where they end. Assumes nothing.
use Prim.Native.Nat.{◌≤◌}
use mathlib.Core.Path.{◌≡◌}
use lib.ListN.{length}
use Rattle.store.specs.Reading.{key_place}
use Rattle.reading.proofs.Keys.{KeysFit}
use Rattle.reading.proofs.shape.keys_fit.Given as goal

abbrev pub invariant-loop : goal.invariant-loop
invariant-loop l = (l.at ≡ key_place l.image l.counter) × (l.at ≤ length l.image) × KeysFit l.image l.commits l.counter
