-- `report::put_failure` meets its contract: the fields of the line, one behind the other. Assumes nothing.
use Rattle.text.proofs.Put.{put_both}
use borrow.Author.Rules.{rules}
use Rattle.report.proofs.put_failure.Goals as goal

pub returns : goal.returns
returns c = record { put = put_both c.put_field-named.ensures.put (put_both c.put_field-judged.ensures.put (put_both c.put_field-keyed.ensures.put (put_both c.put_field-whole.ensures.put c.put_bytes.ensures))); upper_bound = search rules }
