-- `state::gather` meets its contract. The loop's invariant: what is gathered, with what is in the rows that are left, is all. Assumes nothing.
use Rattle.state.proofs.Gathering.{Gathering}
use Rattle.state.proofs.gather.Given as goal

abbrev pub invariant-loop-t : goal.invariant-loop-t
invariant-loop-t l = Gathering l.rows l.from l.set l.all l.t-iterator.0
