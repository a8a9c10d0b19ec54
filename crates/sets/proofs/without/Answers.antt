-- `sets::without` meets its contract. Assumes nothing.
use Rattle.sets.proofs.Words.{and-not}
use Rattle.sets.proofs.without.Goals as goal

pub returns : goal.returns
returns c = and-not _ _ c.ranges.a.fits c.ranges.b.fits
