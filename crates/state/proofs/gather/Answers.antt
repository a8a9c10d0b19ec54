-- `state::gather` meets its contract. The loop's invariant: what is gathered, with what is in the rows that are left, is all. Assumes nothing.
use Rattle.state.proofs.Gathering.{gathering-on, gathering-ends}
use Rattle.state.proofs.gather.Goals as goal

pub loop-t-preserved : goal.loop-t-preserved
loop-t-preserved c = gathering-on c.loop-t.invariant c.in-Some.ensures.steps c.union-all.ensures

pub returns : goal.returns
returns c = gathering-ends c.loop-t.invariant c.in-None.ensures.steps.0
