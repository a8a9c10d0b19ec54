-- `sets::size` meets its contract. Assumes nothing.
use mathlib.Core.Path.{refl}
use lib.Count.{ones-le}
use Rattle.sets.specs.Set.{size}
use Rattle.sets.proofs.size.Goals as goal

pub returns : goal.returns
unfolding size
returns c = (refl, ones-le 64 c.args.m c.ranges.m.fits)
