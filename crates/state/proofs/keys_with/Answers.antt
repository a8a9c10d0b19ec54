-- `state::keys_with` meets its contract. Assumes nothing.
use Rattle.state.proofs.Accesses.{left-starts}
use Rattle.state.proofs.keys_with.Goals as goal

pub returns : goal.returns
returns c = left-starts _ _ _ c.ranges.ranks.fits c.requires.0 c.requires.1 c.below.ensures
