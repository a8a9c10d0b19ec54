-- `report::put_end` meets its contract, for code 13 and for the others. Assumes nothing.
use borrow.Author.Rules.{rules}
use borrow.Author.Tests.{ne_eqb}
use Rattle.search.specs.Choose.{choose}
use Rattle.text.proofs.Put.{put_both}
use Rattle.report.proofs.put_end.Goals as goal

pub returns-then-refusal : goal.returns-then-refusal
unfolding choose
returns-then-refusal c = record { put = rw c.if-refusal.true (put_both c.put_field-named.ensures.put c.put_bytes.ensures); upper_bound = search rules }

pub returns : goal.returns
unfolding choose
returns c = record { put = rw (ne_eqb _ _ c.if-refusal.false) c.put_bytes-2.ensures; upper_bound = search rules }
