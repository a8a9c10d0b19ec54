-- `paths::leading` meets its contract: both walks, from the rows of the set. Assumes nothing.
use Rattle.paths.proofs.leading.Goals as goal

pub returns : goal.returns
returns c = λ s k. (c.walk-prefix.ensures s k c.rows_of-rows.ensures.0, c.walk-snapshot.ensures s k c.rows_of-rows.ensures.1)
