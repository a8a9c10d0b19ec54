-- `sets::lowest` meets its contract. Assumes nothing.
use mathlib.Core.Path.{refl}
use Rattle.sets.specs.Set.{lowest}
use Rattle.sets.proofs.Laws.{lowest-word}
use Rattle.sets.proofs.lowest.Goals as goal

pub returns : goal.returns
unfolding lowest
returns c = (refl, lowest-word _ c.requires c.ranges.m.fits)
