-- `trace::contents::touched_keys` meets its contract: the keys of the operations passed, and of those that are left. Assumes nothing.
use Rattle.trace.proofs.Touched.{Gathered}
use Rattle.trace.proofs.contents.touched_keys.Given as goal

abbrev pub invariant-loop-i : goal.invariant-loop-i
invariant-loop-i l = Gathered l.s l.start l.m l.listed l.i
