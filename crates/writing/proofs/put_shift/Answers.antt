-- `writing::put_shift` meets its contract: the first six bytes and the masks, put one behind the other, are a record of kind 2. Assumes nothing.
use native.Mathlib.Omega.{arith}
use Rattle.writing.proofs.Records.{put-shift}
use Rattle.writing.proofs.put_shift.Goals as goal

pub returns-clause-buffer_after : goal.returns-clause-buffer_after
returns-clause-buffer_after c = let a = c.args in λ u row. put-shift a.buffer.now a.at a.n a.client u (omega arith) c.put_start.ensures (c.put_masks.ensures u row)
