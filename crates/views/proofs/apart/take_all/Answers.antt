-- `views::apart::take_all` meets its contract. The loop's invariant: the commits with a version of a key passed are found. Assumes nothing.
use Rattle.std.proofs.Common.{arith, below_more}
use Rattle.views.proofs.Parted.{parting-all}
use Rattle.views.proofs.apart.take_all.Goals as goal

pub loop-k-preserved : goal.loop-k-preserved
loop-k-preserved c =
    λ s d h row.
    let (g, passed) = c.loop-k.invariant s d h row in
    let (after, grows, here) = c.take_key-found.ensures.1 s d h g in
    (after, below_more _ _ (λ q l i x. grows _ (passed q l i x)) here)

pub returns : goal.returns
returns c = λ s d h row.
    let (g, passed) = c.loop-k.invariant s d h row in
    parting-all h g (λ k l. passed k (omega arith))
