-- `placing::lowest_ready` meets its contract. Assumes nothing.
use native.Mathlib.Omega.{arith}
use Rattle.placing.proofs.Ready.{left-start, left-none, left-found, left-next}
use Rattle.placing.proofs.lowest_ready.Goals as goal

pub loop-c-init : goal.loop-c-init
loop-c-init c = rw c.into_iter-c-iterator.ensures.into_iter_gives (left-start _ _ _ c.requires.2 c.unplaced.ensures)

pub returns-then-without-eq0 : goal.returns-then-without-eq0
returns-then-without-eq0 c = left-found _ _ _ c.requires.2 c.loop-c.invariant c.in-Some.ensures.steps c.without.ensures c.if-without-eq0.true

pub loop-c-preserved : goal.loop-c-preserved
loop-c-preserved c = left-next _ _ _ c.requires.2 c.loop-c.invariant c.in-Some.ensures.steps c.without.ensures c.if-without-eq0.false

pub returns : goal.returns
returns c = left-none _ _ _ c.requires.2 c.loop-c.invariant c.in-None.ensures.steps.0
