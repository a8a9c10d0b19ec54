-- `writing::put_start` meets its contract: the first six bytes of a record are put as three numbers. Assumes nothing.
use native.Mathlib.Omega.{arith}
use Rattle.writing.proofs.Records.{put-start}
use Rattle.writing.proofs.put_start.Goals as goal

pub returns : goal.returns
returns c =
    let a = c.args in
    put-start a.buffer.now a.at a.size a.kind a.first a.second (omega arith) (omega arith)
    c.put_u16.ensures c.put_u16-2.ensures c.put_u16-3.ensures
