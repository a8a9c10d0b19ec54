-- `gathering::writers_held` meets its contract. The loop's invariant: the writers of the versions that were passed and that the mask holds are
-- found. Assumes nothing.
use Rattle.gathering.specs.Places.{Gathers, WroteHeld}
use Rattle.gathering.proofs.writers_held.Given as goal

abbrev pub invariant-loop-i : goal.invariant-loop-i
invariant-loop-i l = Gathers l.found (WroteHeld l.image l.base l.i l.mask)
