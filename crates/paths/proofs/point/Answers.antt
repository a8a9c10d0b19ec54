-- `paths::point` meets its contract. The loop's invariant: the rows of the members that are not left have gained the sets. Assumes nothing.
use native.Mathlib.Omega.{arith}
use Rattle.paths.proofs.Joined.{joined_as, rows_all, rows-turn}
use Rattle.paths.proofs.point.Goals as goal

pub loop-t-preserved : goal.loop-t-preserved
loop-t-preserved c =
    let l = c.loop-t.invariant in
    rows-turn _ _ _ c.ranges.over.fits c.in-Some.ensures.steps l.0 l.1 (omega (arith, l.1.long)) c.union.ensures c.union-in-loop-t.ensures

pub returns : goal.returns
returns c = joined_as (rows_all _ _ _) (rw c.in-None.ensures.steps.0 at c.loop-t.invariant.1)
