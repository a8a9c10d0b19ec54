-- `views::masks::lost` meets its contract. The loop's invariant: at the keys passed nothing of the view is lacking. Assumes nothing.
use Rattle.std.proofs.Common.{refl, arith, below_more}
use Rattle.store.specs.Refusal.{all_of}
use Rattle.views.proofs.Looking.{lost-wanted, looking-lost, looking-done, looking-found, missing-nowhere}
use Rattle.views.proofs.masks.lost.Goals as goal

pub returns-then-lacked-eq0 : goal.returns-then-lacked-eq0
returns-then-lacked-eq0 c = λ s old u e v ro km.
    missing-nowhere s (all_of old) u _ e (λ l h.
    looking-done s (all_of old) u l (looking-lost s u l old v (c.type_inv.views _).fits (ro l h) (km.masks l h) refl) (c.lacked.ensures c.if-lacked-eq0.true l h))

pub returns-then-left-ne0 : goal.returns-then-left-ne0
returns-then-left-ne0 c = λ s old u e v ro km.
    let k = c.loop-k.k in
    let word = (c.type_inv.views _).fits in
    looking-found s (all_of old) u k (looking-lost s u k old v word (ro _ (omega arith)) (km.masks _ (omega arith)) c.without-left.ensures) c.if-left-ne0.true c.lowest.ensures.0
    (λ b. lost-wanted s u k old _ word (ro _ (omega arith)) c.without-left.ensures c.if-left-ne0.true c.lowest.ensures.0) (omega arith) (c.loop-k.invariant s old u e v ro km)

pub loop-k-preserved : goal.loop-k-preserved
loop-k-preserved c = λ s old u e v ro km.
    below_more _ _ (c.loop-k.invariant s old u e v ro km)
    (looking-done s (all_of old) u _ (looking-lost s u _ old v (c.type_inv.views _).fits (ro _ (omega arith)) (km.masks _ (omega arith)) c.without-left.ensures) c.if-left-ne0.false)

pub returns : goal.returns
returns c = λ s old u e v ro km. missing-nowhere s (all_of old) u _ e (λ l h. c.loop-k.invariant s old u e v ro km l (omega arith))
