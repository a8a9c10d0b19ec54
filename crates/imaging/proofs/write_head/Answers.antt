-- `imaging::write_head` meets its contract: the first 8 bytes are put as three numbers. Assumes nothing.
use native.Mathlib.Omega.{arith}
use Rattle.imaging.proofs.Whole.{put-head}
use Rattle.imaging.proofs.write_head.Goals as goal

pub returns : goal.returns
returns c =
    let a = c.args in
    put-head a.buffer.now a.whole a.n a.count (omega arith) (omega arith)
    c.put_u32.ensures c.put_u16.ensures c.put_u16-2.ensures
