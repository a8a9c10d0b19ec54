-- `state::gather_two` meets its contract: the loop of `gather`, for two parts of the array. Assumes nothing.
use Rattle.state.proofs.Gathering.{Gathering}
use Rattle.state.proofs.gather_two.Given as goal

abbrev pub invariant-loop-t : goal.invariant-loop-t
invariant-loop-t l = Gathering l.rows l.one l.set l.first l.t-iterator.0 × Gathering l.rows l.two l.set l.second l.t-iterator.0
