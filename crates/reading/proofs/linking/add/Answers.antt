-- `reading::linking::add` meets its contract. Assumes nothing.
use mathlib.Core.Path.{refl}
use Rattle.reading.proofs.Rows.{gains-row}
use Rattle.reading.proofs.linking.add.Goals as goal

pub returns : goal.returns
returns c = gains-row _ c.requires.0 _ _ _ c.requires.1 c.union.ensures refl
