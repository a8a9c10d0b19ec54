-- `trying::gather::stored` meets its contract. Assumes nothing.
use Rattle.trying.proofs.Gathered.{stored-chosen}
use Rattle.trying.proofs.gather.stored.Goals as goal

pub returns : goal.returns
returns c = let a = c.args in stored-chosen a.versions.now a.keys.now a.n c.requires.0 (λ i. (c.type_inv.keys i).fits) (λ i. (c.type_inv.versions i).fits) c.chosen.result c.chosen.ensures
