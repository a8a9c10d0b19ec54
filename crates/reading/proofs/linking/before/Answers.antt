-- `reading::linking::before` meets its contract. The loop's invariant: those that precede are found among the entries that were passed. Assumes nothing.
use mathlib.Core.Path.{◌∙◌}
use native.Mathlib.Omega.{arith}
use Rattle.reading.proofs.Answers.{said-no}
use Rattle.reading.proofs.Entries.{entry_next}
use Rattle.reading.proofs.Sessions.{found_take, found-skip, found-done}
use Rattle.reading.proofs.linking.before.Goals as goal
use Rattle.reading.proofs.linking.before.Goals.{then-precedes, else-precedes}

pub loop-a-preserved : goal.loop-a-preserved
loop-a-preserved c =
    let l = c.loop-a in
    let p = c.precedes in (
      omega (arith, entry_next c.args.step l.a (omega arith)),
      elim c.if-precedes.branch [
        | then-precedes w ↦ found_take _ _ _ _ l.a l.place l.found l.invariant.0 l.invariant.1 (omega arith) (p.ensures.0 w.if-precedes.true) (w.found-is ∙ w.insert-found.ensures)
        | else-precedes w ↦ found-skip _ _ _ _ l.a l.place l.found l.invariant.0 l.invariant.1 (said-no p.ensures w.if-precedes.false) w.found-is
      ],
    )

pub returns : goal.returns
returns c = found-done _ _ _ _ _ _ c.requires.3 c.byte_at-client.ensures.0 c.u32_at-session.ensures (omega arith) c.loop-a.invariant.1
