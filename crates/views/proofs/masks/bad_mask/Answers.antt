-- `views::masks::bad_mask` meets its contract. The loop's invariant: no key passed has a bad mask. Assumes nothing.
use Rattle.std.proofs.Common.{sym, ◌∙◌, arith, below_more}
use Rattle.sets.proofs.Algebra.{subset-is}
use Rattle.views.proofs.Tests.{taken, left as not_so}
use Rattle.views.proofs.Codes.{lacks-first, holds-other, good-mask, bad-at, bad-nowhere}
use Rattle.views.proofs.masks.bad_mask.Goals as goal

pub returns-then-wrong-eq0 : goal.returns-then-wrong-eq0
returns-then-wrong-eq0 c = λ s u e kk km.
    bad-nowhere s u _ e (λ l h.
    let right = c.wrong.ensures c.if-wrong-eq0.true l h in
    good-mask s u l (km.masks l h) (kk.full l (omega arith)) ((subset-is 1 _).0 right.0 0 tt) right.1)

pub returns-then-not-has : goal.returns-then-not-has
returns-then-not-has c = λ s u e kk km.
    bad-at s u _ e _ (omega arith) (lacks-first s u _ (km.masks _ (omega arith)) (not_so c.if-not-has.true c.has.ensures))
    (c.loop-k.invariant s u e kk km)

pub returns-then-without-ne0 : goal.returns-then-without-ne0
returns-then-without-ne0 c = λ s u e kk km.
    bad-at s u _ e _ (omega arith) (holds-other s u _ (km.masks _ (omega arith)) (kk.full _ (omega arith)) (c.type_inv.fresh _).fits (λ z. c.if-without-ne0.true (c.without.ensures ∙ z)))
    (c.loop-k.invariant s u e kk km)

pub loop-k-preserved : goal.loop-k-preserved
loop-k-preserved c = λ s u e kk km.
    below_more _ _ (c.loop-k.invariant s u e kk km)
    (good-mask s u _ (km.masks _ (omega arith)) (kk.full _ (omega arith)) (taken c.if-not-has.false c.has.ensures) (sym c.without.ensures ∙ c.if-without-ne0.false))

pub returns : goal.returns
returns c = λ s u e kk km. bad-nowhere s u _ e (λ l h. c.loop-k.invariant s u e kk km l (omega arith))
