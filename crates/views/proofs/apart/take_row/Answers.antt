-- `views::apart::take_row` meets its contract. The loop's invariant: the row is taken out at the keys passed, and what is lacking there is gathered. Assumes nothing.
use Rattle.std.proofs.Common.{arith}
use Rattle.views.proofs.Parted.{row_more}
use Rattle.views.proofs.apart.take_row.Goals as goal

pub loop-k-preserved : goal.loop-k-preserved
loop-k-preserved c = row_more _ _ _ c.loop-k.invariant (omega arith) _ c.without.ensures c.union-lacks.ensures c.without-in-loop-k.ensures
