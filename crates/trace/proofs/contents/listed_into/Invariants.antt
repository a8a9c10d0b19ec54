-- `trace::contents::listed_into` meets its contract: the masks up to a key are put, and the others are as they were. Assumes nothing.
use Rattle.trace.proofs.Masks.{Putting}
use Rattle.trace.proofs.contents.listed_into.Given as goal

abbrev pub invariant-loop-k : goal.invariant-loop-k
invariant-loop-k l = Putting l.s l.start l.listed l.initial.masks l.masks l.at l.k-iterator.0
