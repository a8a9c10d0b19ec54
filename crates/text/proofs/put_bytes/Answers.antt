-- `text::put_bytes` meets its contract: after i turns the first i bytes stand in the buffer. Assumes nothing.
use native.Mathlib.Omega.{arith}
use Rattle.text.proofs.Put.{put-next-byte}
use Rattle.text.proofs.put_bytes.Goals as goal

pub loop-i-preserved : goal.loop-i-preserved
loop-i-preserved c = put-next-byte _ _ _ _ c.loop-i.invariant (omega arith) (omega arith)
