-- `report::write` meets its contract, in each of its three answers. Assumes nothing.
use native.Mathlib.Omega.{arith}
use Rattle.report.specs.Report.{report_text}
use Rattle.text.proofs.Put.{put-start}
use borrow.Author.Rules.{rules}
use Rattle.report.proofs.write.Goals as goal

pub returns-then-out-lt-LONGEST : goal.returns-then-out-lt-LONGEST
returns-then-out-lt-LONGEST c = record { short = λ short. (search rules, search rules); text = λ room. absurd (omega arith); longest = search rules }

pub returns-in-Err : goal.returns-in-Err
unfolding report_text
returns-in-Err c = rw c.in-Err.is record { short = λ short. absurd (omega arith); text = λ room. put-start c.put_refusal.ensures.put; longest = search rules }

pub returns-in-Ok : goal.returns-in-Ok
unfolding report_text
returns-in-Ok c = rw c.in-Ok.is record { short = λ short. absurd (omega arith); text = λ room. put-start c.put_judged.ensures.put; longest = search rules }
