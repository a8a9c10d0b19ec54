-- `verdicts::table::live` meets its contract. The loop's invariant: the set has the clauses of the levels before this one that have not failed. Assumes nothing.
use Rattle.verdicts.proofs.Asked.{LiveBelow}
use Rattle.verdicts.proofs.table.live.Given as goal

abbrev pub invariant-loop-level : goal.invariant-loop-level
invariant-loop-level l = LiveBelow l.verdicts l.level l.all
