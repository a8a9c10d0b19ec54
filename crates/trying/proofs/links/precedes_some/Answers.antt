-- `trying::links::precedes_some` meets its contract. The loop's invariant: SO leads to none of the members passed. Assumes nothing.
use native.Mathlib.Omega.{arith}
use Rattle.sets.proofs.Laws.{has-lt}
use Rattle.trying.proofs.links.precedes_some.Goals as goal

pub returns : goal.returns
returns c =
    (λ t. absurd t, λ (b, p). absurd (c.loop-b.invariant b (omega arith) (omega (arith, has-lt 64 c.args.set b c.ranges.set.fits p.0)) p))
