-- `placing::walk_back` meets its contract. Assumes nothing.
use Rattle.placing.proofs.Way.{Walked}
use Rattle.placing.proofs.walk_back.Given as goal

abbrev pub invariant-loop-at : goal.invariant-loop-at
invariant-loop-at l = Walked l.rows l.n l.placed l.start l.way l.at l.passed l.c
