-- `trace::contents::touched_into` meets its contract: the masks up to a key are put, and the others are as they were. Assumes nothing.
use Rattle.trace.proofs.Masks.{PuttingBy}
use Rattle.trace.proofs.contents.touched_into.Given as goal

abbrev pub invariant-loop-twice : goal.invariant-loop-twice
invariant-loop-twice l = PuttingBy l.s l.start l.fn.ranks l.initial.masks l.masks l.at l.twice-iterator.0
