-- `paths::sweep` meets its contract. The loop's invariant: the rows below t are gathered. Assumes nothing.
use mathlib.Core.Path.{◌≡◌, refl}
use native.Mathlib.Omega.{arith}
use Rattle.store.specs.Limits.{numbers}
use Rattle.paths.proofs.Swept.{sweep-on}
use Rattle.paths.proofs.sweep.Goals as goal

pub loop-t-preserved : goal.loop-t-preserved
loop-t-preserved c =
    let links = c.args.links.now in
    let l = c.loop-t in
    (sweep-on links 0 l.t _ l.invariant.0 _ (omega arith) c.union-prefix.ensures, sweep-on links numbers l.t _ l.invariant.1 _ refl c.union-snapshot.ensures)

pub returns : goal.returns
returns c =
    let l = c.loop-t in
    let e : l.t ≡ c.args.n = omega arith in
    (rw e at l.invariant.0, rw e at l.invariant.1)
