-- `verdicts::report::write_down` meets its contract. Assumes nothing.
use native.Mathlib.Omega.{arith}
use lib.ListN.{length-set}
use Rattle.verdicts.specs.Verdicts.{written_down}
use Rattle.verdicts.proofs.report.write_down.Goals as goal

pub bounds-verdicts-level-in-Some : goal.bounds-verdicts-level-in-Some
bounds-verdicts-level-in-Some c = simp length-set (omega arith)

pub bounds-verdicts-level-in-Some-2 : goal.bounds-verdicts-level-in-Some-2
bounds-verdicts-level-in-Some-2 c = simp length-set (omega arith)

pub bounds-verdicts-level-in-Some-3 : goal.bounds-verdicts-level-in-Some-3
bounds-verdicts-level-in-Some-3 c = simp length-set (omega arith)

pub returns-in-Some : goal.returns-in-Some
unfolding written_down
returns-in-Some c = rw c.in-Some.is

pub returns-in_default : goal.returns-in_default
unfolding written_down
returns-in_default c = rw c.in_default.is
