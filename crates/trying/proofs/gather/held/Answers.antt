-- `trying::gather::held` meets its contract. Assumes nothing.
use Rattle.trying.proofs.Gathered.{held-chosen}
use Rattle.trying.proofs.gather.held.Goals as goal

pub returns : goal.returns
returns c = let a = c.args in held-chosen a.versions.now a.keys.now a.n c.requires.0 a.masks.now a.base c.chosen.result c.chosen.ensures
