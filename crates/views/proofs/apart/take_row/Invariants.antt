-- `views::apart::take_row` meets its contract. The loop's invariant: the row is taken out at the keys passed, and what is lacking there is gathered. Assumes nothing.
use Rattle.views.proofs.Parted.{RowPassed}
use Rattle.views.proofs.apart.take_row.Given as goal

abbrev pub invariant-loop-k : goal.invariant-loop-k
invariant-loop-k l =
    RowPassed l.versions l.row l.k l.initial.left l.left l.lacks
