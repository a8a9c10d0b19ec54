-- `trying::gather::chosen` meets its contract. The loops' invariant: what the versions passed give is gathered. Assumes nothing.
use Rattle.state.specs.Keeps.{IsSet}
use Rattle.trying.specs.Tries.{ChosenAt}
use Rattle.trying.proofs.Passing.{From}
use Rattle.trying.proofs.gather.chosen.Given as goal

abbrev pub invariant-loop-k : goal.invariant-loop-k
invariant-loop-k l = IsSet l.all (From l.keys l.n (ChosenAt l.versions l.masks l.base l.ranks l.readers) l.k 0)

abbrev pub invariant-loop-i : goal.invariant-loop-i
invariant-loop-i l = IsSet l.all (From l.keys l.n (ChosenAt l.versions l.masks l.base l.ranks l.readers) l.k l.i)
