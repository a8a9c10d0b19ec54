-- `gathering::fill` meets its contract. The loop's invariant: the rows of the commits that were passed stand in the table. Assumes nothing.
use mathlib.Core.Path.{◌≡◌}
use Rattle.store.specs.Reading.{store_of}
use Rattle.gathering.proofs.Rows.{masks_place, Filled}
use Rattle.gathering.proofs.fill.Given as goal

abbrev pub invariant-loop-row : goal.invariant-loop-row
invariant-loop-row l = (l.masks ≡ masks_place l.step l.row-index) × Filled (store_of l.image) l.initial.row-items l.row-index l.row-items
