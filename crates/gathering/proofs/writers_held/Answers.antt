-- `gathering::writers_held` meets its contract. The loop's invariant: the writers of the versions that were passed and that the mask holds are
-- found. Assumes nothing.
use mathlib.Core.Path.{sym, ◌∙◌}
use Rattle.search.proofs.Tests.{true-T, false-T}
use Rattle.gathering.proofs.Held.{held_more, held-skip}
use Rattle.gathering.proofs.writers_held.Goals as goal
use Rattle.gathering.proofs.writers_held.Goals.{then-has, else-has}

pub loop-i-preserved : goal.loop-i-preserved
loop-i-preserved c =
    let l = c.loop-i in
    let h = c.has.ensures in
    elim c.if-has.branch [
      | then-has w ↦ held_more _ _ _ l.i (true-T _ (sym h ∙ w.if-has.true)) w.byte_at.ensures.0 (w.found-is ∙ w.insert-found.ensures) l.invariant
      | else-has w ↦ held-skip _ _ _ l.i (false-T _ (sym h ∙ w.if-has.false)) w.found-is l.invariant
    ]
