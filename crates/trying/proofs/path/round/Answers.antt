-- `trying::path::round` meets its contract. Assumes nothing.
use Rattle.trying.specs.Recorded.{recorded}
use Rattle.trying.proofs.Stepped.{round_is}
use Rattle.trying.proofs.path.round.Goals as goal

pub returns : goal.returns
returns c =
    let a = c.args in
    λ below. round_is (recorded a.versions.now a.keys.now a.commits.now a.n) a.most below a.near c.tries.result c.tries.ensures c.union-wide.ensures a.kind c.ends_of.result c.tries-2.result c.ends_of.ensures c.tries-2.ensures
