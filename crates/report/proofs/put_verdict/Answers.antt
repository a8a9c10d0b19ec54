-- `report::put_verdict` meets its contract: the name of the level, and its verdict behind it. Assumes nothing.
use Rattle.text.proofs.Put.{put_both}
use borrow.Author.Rules.{rules}
use Rattle.report.proofs.put_verdict.Goals as goal

pub returns-in-Ok : goal.returns-in-Ok
returns-in-Ok c = rw c.in-Ok.is record { put = put_both c.put_bytes-named.ensures c.put_bytes.ensures; upper_bound = search rules }

pub returns-in-Err : goal.returns-in-Err
returns-in-Err c = rw c.in-Err.is record { put = put_both c.put_bytes-named.ensures c.put_failure.ensures.put; upper_bound = search rules }
