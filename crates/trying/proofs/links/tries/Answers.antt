-- `trying::links::tries` meets its contract. The loop's invariant: of the commits tried, those with a link are in the set. Assumes nothing.
use mathlib.Core.Path.{◌≡◌}
use native.Mathlib.Omega.{arith}
use Rattle.search.proofs.Tests.{both}
use Rattle.trying.proofs.Linked.{links-is, tried-more}
use Rattle.trying.proofs.links.tries.Goals as goal

pub loop-a-preserved : goal.loop-a-preserved
loop-a-preserved c =
    let a = c.args in
    let l = c.loop-a in
    tried-more l.all l.a c.links_to-linked.result l.invariant (both c.links_to-linked.ensures (links-is a.versions.now a.keys.now a.commits.now a.n c.stored-stored.result c.stored-stored.ensures a.ends l.a)) c.put-all.ensures

pub returns : goal.returns
returns c = let e : c.loop-a.a ≡ c.args.most = omega arith in rw e at c.loop-a.invariant
