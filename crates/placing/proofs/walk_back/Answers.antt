-- `placing::walk_back` meets its contract. Assumes nothing.
use mathlib.Core.Path.{sym, ◌∙◌}
use native.Mathlib.Omega.{arith}
use borrow.Author.Rules.{rules}
use Rattle.ordering.proofs.Placing.{left_is}
use Rattle.placing.proofs.Ready.{awaits}
use Rattle.placing.proofs.Way.{walk_start, walk-all, walk-found, walk-next}
use Rattle.placing.proofs.walk_back.Goals as goal

pub loop-at-init : goal.loop-at-init
loop-at-init c = walk_start _ _ _ _ (omega arith) c.args.way.now (omega arith) c.requires.stuck.1 c.single-passed.ensures

pub step_back-back-requires : goal.step_back-back-requires
step_back-back-requires c =
    let w = c.loop-at.invariant.waiting in
    let low = ((left_is c.args.n c.args.placed c.loop-at.c).0 w).0.1 in
    (omega arith, omega arith, awaits _ _ _ c.requires.sizes.2 c.requires.stuck.0 c.loop-at.c w)

pub returns-then-has-clause-ring : goal.returns-then-has-clause-ring
returns-then-has-clause-ring c =
    walk-found _ _ _ _ (omega arith) (search rules) (omega arith) c.loop-at.invariant (omega arith) (c.step_back-back.ensures.0 _ c.requires.sizes.2).0
    (sym c.has.ensures ∙ c.if-has.true) _ _ (omega arith) c.as_far_as-to.ensures.2

pub loop-at-preserved : goal.loop-at-preserved
loop-at-preserved c =
    walk-next _ _ _ _ (omega arith) (search rules) (omega arith) c.loop-at.invariant (omega arith) (c.step_back-back.ensures.0 _ c.requires.sizes.2).0 (c.step_back-back.ensures.0 _ c.requires.sizes.2).1
    (sym c.has.ensures ∙ c.if-has.false) c.insert-passed.ensures

pub returns-clause-ring : goal.returns-clause-ring
returns-clause-ring c = walk-all _ _ _ _ (omega arith) (search rules) (omega arith) c.loop-at.invariant (omega arith) (omega arith)
