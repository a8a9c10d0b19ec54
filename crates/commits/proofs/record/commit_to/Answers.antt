-- `commits::record::commit_to` meets its contract. Assumes nothing.
use mathlib.Core.Path.{refl}
use native.Mathlib.Omega.{arith}
use Rattle.shifts.proofs.Refused.{not_taken}
use Rattle.commits.specs.Records.{commit_in}
use Rattle.commits.proofs.Begun.{operations-read}
use Rattle.commits.proofs.Cases.{old-is}
use Rattle.commits.proofs.Turns.{refused-old}
use Rattle.commits.proofs.record.commit_to.Goals as goal

pub returns-then-session-sessions : goal.returns-then-session-sessions
returns-then-session-sessions c =
    let a = c.args in
    λ g clients fs r number small verdicts.
    let k = commit_in g a.file.now a.at a.n in
    record {
      answer = refused-old a.number g k ((old-is g.store k a.sessions.now r.keeps.in-sessions c.requires.le_n.3).1 (omega arith)) c.of_record.ensures;
      small = small;
      kept = not_taken _ refl;
    }

pub complete-requires : goal.complete-requires
complete-requires c =
    let p = c.requires in record { le_n = (p.le_n.0, p.le_n.1, p.le_n.3, p.le_n.2, omega arith, omega arith, p.values_room.2); room = p.room }

pub returns : goal.returns
returns c =
    let a = c.args in
    let p = c.requires in
    λ g clients fs r number small verdicts.
    let k = commit_in g a.file.now a.at a.n in
    c.complete.ensures g k clients fs (record {
      recorded = r;
      client-is = refl;
      session-is = refl;
      number_is = number;
      operations = operations-read a.file.now a.at.operations a.at.count a.at.ranks a.values.now k p.le_n.5.0 refl p.values_room.0 small;
      masks = c.view_after.ensures g clients _ _ _ _ _ _ r;
      new-number = λ t. let l = (old-is g.store k a.sessions.now r.keeps.in-sessions p.le_n.3).0 t in omega arith;
    })
    verdicts
