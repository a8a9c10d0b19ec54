-- `writing::put_head` meets its contract: the length, the first six bytes of the record of kind 1 and the number of records, put one behind
-- the other. Assumes nothing.
use native.Mathlib.Omega.{arith}
use Rattle.writing.proofs.Records.{put-head}
use Rattle.writing.proofs.put_head.Goals as goal

pub returns : goal.returns
returns c =
    let a = c.args in
    put-head a.buffer.now a.whole a.keys a.clients a.records (omega arith)
    c.put_u32.ensures c.put_start.ensures c.put_u16.ensures
