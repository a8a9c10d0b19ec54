-- `trace::contents::touched_keys` meets its contract: the keys of the operations passed, and of those that are left. Assumes nothing.
use native.Mathlib.Omega.{arith}
use Rattle.trace.proofs.Touched.{gathered_none, gathered-key, gathered-more, gathered-all}
use Rattle.trace.proofs.contents.touched_keys.Goals as goal

pub loop-i-init : goal.loop-i-init
loop-i-init c = gathered_none _ _ _ c.requires

pub insert-listed-requires : goal.insert-listed-requires
insert-listed-requires c = omega (arith, gathered-key c.loop-i.invariant (omega arith), c.byte_at.ensures.0)

pub loop-i-preserved : goal.loop-i-preserved
loop-i-preserved c = gathered-more c.loop-i.invariant (omega arith) c.byte_at.ensures.0 c.insert-listed.ensures

pub returns : goal.returns
returns c = gathered-all c.loop-i.invariant (omega arith)
