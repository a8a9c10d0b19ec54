-- `placing::lowest_ready` meets its contract. Assumes nothing.
use Rattle.placing.proofs.Ready.{Left}
use Rattle.placing.proofs.lowest_ready.Given as goal

abbrev pub invariant-loop-c : goal.invariant-loop-c
invariant-loop-c l = Left l.rows l.n l.placed l.c-iterator.0
