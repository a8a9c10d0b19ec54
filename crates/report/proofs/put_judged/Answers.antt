-- `report::put_judged` meets its contract: the counts, and the lines of the levels in two halves. Assumes nothing.
use Rattle.text.proofs.Put.{put_both}
use Rattle.report.proofs.Lines.{put-halves}
use borrow.Author.Rules.{rules}
use Rattle.report.proofs.put_judged.Goals as goal

pub returns : goal.returns
returns c = record { put = put_both c.put_counts-counted.ensures.put (put-halves _ _ _ _ _ _ _ _ _ _ c.put_first-half.ensures.put c.put_last.ensures.put); upper_bound = search rules }
