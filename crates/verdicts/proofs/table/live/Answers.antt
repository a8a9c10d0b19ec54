-- `verdicts::table::live` meets its contract. The loop's invariant: the set has the clauses of the levels before this one that have not failed. Assumes nothing.
use Rattle.verdicts.proofs.Asked.{live-take, live-skip}
use Rattle.verdicts.proofs.table.live.Goals as goal
use Rattle.verdicts.proofs.table.live.Goals.{then-verdicts-level-eq0, else-verdicts-level-eq0}

pub loop-level-preserved : goal.loop-level-preserved
loop-level-preserved c =
    let v = c.args.verdicts.now in
    let l = c.loop-level in
    elim c.if-verdicts-level-eq0.branch [
      | then-verdicts-level-eq0 w ↦ rw w.all-is (live-take v l.level l.all l.invariant w.clauses_of.ensures w.union-all.ensures)
      | else-verdicts-level-eq0 w ↦ rw w.all-is (live-skip v l.level l.all l.invariant w.if-verdicts-level-eq0.false)
    ]
