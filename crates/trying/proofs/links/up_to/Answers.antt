-- `trying::links::up_to` meets its contract. Assumes nothing.
use Rattle.trying.specs.Recorded.{recorded}
use Rattle.trying.proofs.Linked.{up-to-is}
use Rattle.trying.proofs.links.up_to.Goals as goal

pub returns : goal.returns
returns c =
    let a = c.args in
    λ below. up-to-is (recorded a.versions.now a.keys.now a.commits.now a.n) a.me.0 below c.single.result c.tries.result c.single.ensures c.tries.ensures c.insert.ensures
