-- `views::missing::least_absent` meets its contract. The loop's invariant: nothing is missing at the keys passed. Assumes nothing.
use Rattle.std.proofs.Common.{T, sym, subst, arith, below_more}
use Rattle.growth.proofs.Made.{keys-after}
use Rattle.state.proofs.Ranks.{writes-rank}
use Rattle.views.specs.Rules.{of_written}
use Rattle.views.proofs.Tests.{taken, left as not_so}
use Rattle.views.proofs.Looking.{looking-all, looking-done, looking-found, half-before, missing-nowhere}
use Rattle.views.proofs.missing.least_absent.Goals as goal
use Rattle.views.proofs.missing.least_absent.Goals.{then-has+else-left-ne0, else-has}

pub returns-then-left-ne0 : goal.returns-then-left-ne0
returns-then-left-ne0 c = λ s u t values made e kk ko ro.
    let k = c.loop-k.k in
    let written = taken c.if-has.true c.has.ensures in
    looking-found s _ u _ (looking-all s (of_written c.args.ranks) u k (omega (arith, (c.type_inv.keys k).fits))
    (half-before s u t k (subst T (sym (writes-rank ko k)) written) (kk.full k (omega (arith, keys-after s u t made)))) (ro k (omega arith)) c.without-left.ensures)
    c.if-left-ne0.true c.lowest.ensures.0 (λ b. written) (omega arith) (c.loop-k.invariant s u t values made e kk ko ro)

pub loop-k-preserved : goal.loop-k-preserved
loop-k-preserved c = λ s u t values made e kk ko ro.
    let k = c.loop-k.k in
    below_more _ _ (c.loop-k.invariant s u t values made e kk ko ro) (elim c.if-has.branch [
      | then-has+else-left-ne0 w ↦ looking-done s _ u _ (looking-all s (of_written c.args.ranks) u k (omega (arith, (c.type_inv.keys k).fits))
          (half-before s u t k (subst T (sym (writes-rank ko k)) (taken w.if-has.true c.has.ensures)) (kk.full k (omega (arith, keys-after s u t made)))) (ro k (omega arith)) w.without-left.ensures) w.if-left-ne0.false
      | else-has w ↦ λ i b y. absurd (not_so w.if-has.false c.has.ensures y)
    ])

pub returns : goal.returns
returns c = λ s u t values made e kk ko ro. missing-nowhere s _ u _ e (λ l b. c.loop-k.invariant s u t values made e kk ko ro l (omega arith))
