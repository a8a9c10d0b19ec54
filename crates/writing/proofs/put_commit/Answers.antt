-- `writing::put_commit` meets its contract: the first six bytes, the session number, the operations and the masks, put one behind the other,
-- are a record of kind 3. Assumes nothing.
use Prim.Native.Nat.{◌*◌, ◌≤◌}
use native.Mathlib.Omega.{arith}
use Rattle.trace.specs.Format.{operations_at}
use Rattle.trace.proofs.Decoded.{length-operations_at}
use Rattle.writing.proofs.Operations.{operations-few}
use Rattle.writing.proofs.Records.{put-commit}
use Rattle.writing.proofs.put_commit.Goals as goal
use Rattle.writing.proofs.put_commit.Goals.{Start}

-- the operations are few
few : (c : goal.Start) → c.args.count ≤ 2 * c.args.n
few c = omega (arith, operations-few c.args.file.now c.args.operations c.args.n 0 c.args.count (omega arith) c.requires.count_in_bounds.1)

pub put_start-requires : goal.put_start-requires
put_start-requires c = omega (arith, few (goal.at.put_start-requires c).Start)

pub returns-clause-buffer_after : goal.returns-clause-buffer_after
returns-clause-buffer_after c =
    let a = c.args in
    let copied = operations_at a.file.now a.operations a.count in
    λ u row.
    put-commit a.buffer.now a.at a.n a.count (record { client = a.client; session = a.session; operations = copied; view_after = u })
    (length-operations_at a.file.now a.operations a.count) c.requires.count_in_bounds.2
    c.put_start.ensures c.put_u32.ensures c.copy_operations.ensures (c.put_masks.ensures u row)
