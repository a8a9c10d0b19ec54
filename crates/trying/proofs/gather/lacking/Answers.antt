-- `trying::gather::lacking` meets its contract. Assumes nothing.
use Rattle.trying.proofs.Gathered.{not-among}
use Rattle.trying.proofs.gather.lacking.Goals as goal

pub returns : goal.returns
returns c = not-among c.writers.result c.args.seen c.writers.ensures c.without.ensures
