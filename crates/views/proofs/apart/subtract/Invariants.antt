-- `views::apart::subtract` meets its contract. The loop's invariant: the words of the keys passed are the differences. Assumes nothing.
use Rattle.views.specs.Parted.{Subtracted}
use Rattle.views.proofs.apart.subtract.Given as goal

abbrev pub invariant-loop-k : goal.invariant-loop-k
invariant-loop-k l =
    Subtracted l.masks l.base l.others l.other l.k l.left l.any
