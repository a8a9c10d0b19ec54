-- `trying::links::past` meets its contract. Assumes nothing.
use Rattle.trying.specs.Recorded.{recorded}
use Rattle.trying.proofs.Linked.{before-is, read_is}
use Rattle.trying.proofs.links.past.Goals as goal

pub returns : goal.returns
returns c =
    let a = c.args in
    let before = c.tries-before in
    λ below. (before-is (recorded a.versions.now a.keys.now a.commits.now a.n) a.most below a.set before.result before.ensures, read_is (recorded a.versions.now a.keys.now a.commits.now a.n) a.most below a.set before.result before.ensures c.union.result c.tries-read.result c.union.ensures c.tries-read.ensures)
