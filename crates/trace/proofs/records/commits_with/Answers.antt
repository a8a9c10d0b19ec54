-- `trace::records::commits_with` meets its contract: one case for each kind of record. Assumes nothing.
use native.Mathlib.Numerals.{add-one}
use Rattle.trace.specs.Meaning.{entry_of}
use Rattle.trace.proofs.records.commits_with.Goals as goal

pub returns-in-Shift : goal.returns-in-Shift
unfolding entry_of
returns-in-Shift c = λ s keys. rw c.in-Shift.is

pub returns-in-Commit : goal.returns-in-Commit
unfolding entry_of
returns-in-Commit c = λ s keys. rw (c.in-Commit.is, add-one)
