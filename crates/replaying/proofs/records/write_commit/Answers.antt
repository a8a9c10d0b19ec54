-- `replaying::records::write_commit` meets its contract: the shift is to the full view before, and the view after the commit has its own versions. Assumes nothing.
use native.Mathlib.Omega.{arith}
use Rattle.store.specs.Store.{Commit, write}
use Rattle.trace.specs.Format.{operations_at}
use Rattle.replaying.proofs.Full.{small_mask, full-after, row_written}
use Rattle.replaying.proofs.Committed.{put_both}
use Rattle.replaying.proofs.records.write_commit.Goals as goal

pub grow-requires : goal.grow-requires
grow-requires c =
    let p = c.requires in
    let (r, room, full) = p.commits_lt_max_commits in
    (p.n_le_max_keys.0, omega (arith, p.n_le_max_keys), small_mask r.store _ _ full room)

pub returns-clause-wrote : goal.returns-clause-wrote
returns-clause-wrote c =
    let a = c.args in
    let next = c.put_shift-next.ensures.value in
    λ r u full.
    let made : Commit = record { client = a.client; session = a.session; operations = operations_at a.file.now a.operations a.count; view_after = u } in
    let after = full-after r made a.n a.full.now full _ _ (c.sort_operations-ranks.ensures write) c.grow.new.full c.grow.ensures in
    let row = row_written r made a.n a.full.now full _ _ (c.sort_operations-ranks.ensures write) c.grow.new.full c.grow.ensures in
    record {
      put = put_both a.n r made a.buffer.now a.at next (omega (arith, c.requires.n_le_max_keys.4)) (c.put_shift-next.ensures.buffer_after _ full.row) (c.put_commit.ensures.buffer_after _ row);
      full = after;
    }
