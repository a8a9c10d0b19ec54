-- `replaying::records::write_one` meets its contract: nothing for a shift, two records for a commit. Assumes nothing.
use Rattle.replaying.proofs.Committed.{wrote-shift, wrote-commit}
use Rattle.replaying.proofs.records.write_one.Goals as goal

pub returns-in-Shift-clause-wrote : goal.returns-in-Shift-clause-wrote
returns-in-Shift-clause-wrote c = let a = c.args in λ g r full. wrote-shift a.n a.file.now c.in-Shift.is g r a.at a.buffer.now a.full.now full

pub returns-in-Commit-clause-wrote : goal.returns-in-Commit-clause-wrote
returns-in-Commit-clause-wrote c = let a = c.args in λ g r full. wrote-commit a.n a.file.now c.in-Commit.is g r a.at (λ u. c.write_commit.ensures.wrote r u full)
