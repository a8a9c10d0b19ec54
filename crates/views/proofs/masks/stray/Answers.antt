-- `views::masks::stray` meets its contract. The loop's invariant: no key passed strays. Assumes nothing.
use Rattle.std.proofs.Common.{refl, arith, below_more}
use Rattle.views.proofs.Codes.{stray-yes, stray-no, stray-at, stray-nowhere}
use Rattle.views.proofs.masks.stray.Goals as goal

pub returns-then-astray-eq0 : goal.returns-then-astray-eq0
returns-then-astray-eq0 c = λ s old t values e ro km ko.
    stray-nowhere s old t _ e (λ l h. stray-no t _ values ko l old (km.masks l h) (ro l h) refl (c.astray.ensures c.if-astray-eq0.true l h))

pub returns-then-strays : goal.returns-then-strays
returns-then-strays c = λ s old t values e ro km ko.
    stray-at s old t _ e _ (omega arith) (stray-yes t _ values ko _ old (km.masks _ (omega arith)) (ro _ (omega arith)) c.if-strays.true c.strays.ensures)
    (c.loop-k.invariant s old t values e ro km ko)

pub loop-k-preserved : goal.loop-k-preserved
loop-k-preserved c = λ s old t values e ro km ko.
    below_more _ _ (c.loop-k.invariant s old t values e ro km ko)
    (stray-no t _ values ko _ old (km.masks _ (omega arith)) (ro _ (omega arith)) c.if-strays.false c.strays.ensures)

pub returns : goal.returns
returns c = λ s old t values e ro km ko. stray-nowhere s old t _ e (λ l h. c.loop-k.invariant s old t values e ro km ko l (omega arith))
