-- `report::put_counts` meets its contract: the fields of the line, one behind the other. Assumes nothing.
use Rattle.text.proofs.Put.{put_both}
use Rattle.report.specs.Report.{counts_line}
use borrow.Author.Rules.{rules}
use Rattle.report.proofs.put_counts.Goals as goal

pub returns : goal.returns
unfolding counts_line
returns c = record { put = put_both c.put_field-counted.ensures.put (put_both c.put_field-whole.ensures.put c.put_bytes.ensures); upper_bound = search rules }
