-- `trying::links::starts` meets its contract. The loops' invariant: no link starts at one of the versions passed. Assumes nothing.
use Rattle.trying.specs.Tries.{StartsAt}
use Rattle.trying.proofs.Passing.{SomePassed}
use Rattle.trying.proofs.links.starts.Given as goal

abbrev pub invariant-loop-k : goal.invariant-loop-k
invariant-loop-k l = ¬ SomePassed l.keys l.n (StartsAt l.versions l.keys l.ends l.a.0) l.k 0

abbrev pub invariant-loop-i : goal.invariant-loop-i
invariant-loop-i l = ¬ SomePassed l.keys l.n (StartsAt l.versions l.keys l.ends l.a.0) l.k l.i
