-- `state::gather_two` meets its contract: the loop of `gather`, for two parts of the array. Assumes nothing.
use Rattle.state.proofs.Gathering.{gathering-on, gathering-ends}
use Rattle.state.proofs.gather_two.Goals as goal

pub loop-t-preserved : goal.loop-t-preserved
loop-t-preserved c =
    let l = c.loop-t.invariant in
    let given = c.in-Some.ensures.steps in
    (gathering-on l.0 given c.union-first.ensures, gathering-on l.1 given c.union-second.ensures)

pub returns : goal.returns
returns c = let none = c.in-None.ensures.steps.0 in (gathering-ends c.loop-t.invariant.0 none, gathering-ends c.loop-t.invariant.1 none)
