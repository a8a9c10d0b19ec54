-- `verdicts::report::note` meets its contract. The loop's invariant: the levels before this one have been noted. Assumes nothing.
use borrow.Author.Rules.{rules}
use Rattle.levels.specs.Level.{clauses_of, fails_clauses}
use Rattle.verdicts.proofs.Noted.{noted-on, live_on, noted-all}
use Rattle.verdicts.proofs.report.note.Goals as goal

pub loop-level-preserved : goal.loop-level-preserved
loop-level-preserved c s u commit values j h a =
    let l = c.loop-level in
    let so_far = l.invariant s u commit values j h a in
    let here = c.note_level.ensures s u commit values j h (so_far.1 l.level (search rules)) in
    (noted-on so_far.0 (search rules) here, live_on _ here so_far.1)

pub returns : goal.returns
returns c s u commit values fs j h a k =
    noted-all (λ l. fails_clauses c.args.number s u commit (clauses_of l)) (c.loop-level.invariant s u commit values j h a).0 (search rules) (search rules) fs k
