-- `views::apart::subtract` meets its contract. The loop's invariant: the words of the keys passed are the differences. Assumes nothing.
use Rattle.std.proofs.Common.{arith}
use Rattle.views.proofs.Parted.{subtracted-more}
use Rattle.views.proofs.apart.subtract.Goals as goal

pub loop-k-preserved : goal.loop-k-preserved
loop-k-preserved c = subtracted-more _ _ _ _ c.loop-k.invariant (omega arith) _ c.without-word.ensures c.union-any.ensures
