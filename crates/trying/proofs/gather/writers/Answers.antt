-- `trying::gather::writers` meets its contract. Assumes nothing.
use Rattle.trying.proofs.Gathered.{writers-chosen}
use Rattle.trying.proofs.gather.writers.Goals as goal

pub returns : goal.returns
returns c = let a = c.args in writers-chosen a.versions.now a.keys.now a.n c.requires.0 (λ i. (c.type_inv.keys i).fits) a.ranks c.chosen.result c.chosen.ensures
