-- `table::put_rows` meets its contract: after i turns the first i rows stand in the buffer. Assumes nothing.
use native.Mathlib.Omega.{arith}
use borrow.Author.Rules.{rules}
use Rattle.table.specs.Table.{table_text}
use Rattle.table.proofs.Lines.{put-next-row}
use Rattle.table.proofs.put_rows.Goals as goal

pub loop-row-init : goal.loop-row-init
unfolding table_text
loop-row-init c = search rules

pub loop-row-preserved : goal.loop-row-preserved
loop-row-preserved c =
    let l = c.loop-row in
    let digits = c.put_field-digits.ensures in
    let feed = c.put_bytes-to.ensures in
    (omega (arith, digits.upper_bound, feed.behind), put-next-row _ l.row-index l.invariant.1 (omega arith) digits.put feed)
