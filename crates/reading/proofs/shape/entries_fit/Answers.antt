-- `reading::shape::entries_fit` meets its contract. The loop's invariant: the entries that were passed fit. Assumes nothing.
use native.Mathlib.Omega.{arith}
use Rattle.reading.proofs.Answers.{refused}
use Rattle.reading.proofs.Entries.{entry_next, entry-fits, entry-small, entries-more}
use Rattle.reading.proofs.shape.entries_fit.Goals as goal

pub returns-then-u32_at : goal.returns-then-u32_at
returns-then-u32_at c =
    let l = c.loop-t in
    refused (λ h. let small = entry-small _ _ _ l.invariant.0 (h l.t (omega arith) (omega arith)) in absurd (omega (arith, small, c.u32_at.ensures)))

pub loop-t-preserved : goal.loop-t-preserved
loop-t-preserved c =
    let l = c.loop-t in (
      omega (arith, entry_next c.args.step l.t (omega arith)),
      entries-more _ _ _ (entry-fits _ _ _ l.invariant.0 (omega (arith, c.u32_at.ensures)) (c.is_new.ensures.0 c.if-not-is_new.false)) l.invariant.1,
    )
