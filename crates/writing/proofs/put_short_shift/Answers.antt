-- `writing::put_short_shift` meets its contract: the first six bytes, the set and the masks, put one behind the other, are a record of kind 6.
-- Assumes nothing.
use native.Mathlib.Omega.{arith}
use Rattle.sets.proofs.Laws.{has-lt}
use Rattle.writing.proofs.Records.{put-short-shift}
use Rattle.writing.proofs.put_short_shift.Goals as goal
use Rattle.writing.proofs.put_short_shift.Goals.{Start}

pub put_listed-requires : goal.put_listed-requires
put_listed-requires c = (omega arith, (_, λ k. has-lt _ _ k c.requires.3, c.requires.2))

pub returns-clause-buffer_after : goal.returns-clause-buffer_after
returns-clause-buffer_after c =
    let a = c.args in
    let all = c.size.ensures.0 in
    λ u row.
    put-short-shift a.buffer.now a.at a.n a.client a.listed u (omega arith) (omega arith) c.put_start.ensures c.put_u32.ensures
    (c.put_listed.ensures a.n u (λ k. has-lt _ _ k c.requires.3) row)
