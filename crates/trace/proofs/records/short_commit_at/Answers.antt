-- `trace::records::short_commit_at` meets its contract: the tests are those of short_commit_at, in their order. Assumes nothing.
use Rattle.search.proofs.Steps.{need-met, need-unmet, tests}
use Rattle.trace.specs.Format.{short_commit_in, short_commit_at}
use Rattle.trace.specs.Meaning.{reading_of}
use Rattle.trace.proofs.records.short_commit_at.Goals as goal

pub returns-then-s-at : goal.returns-then-s-at
unfolding short_commit_at short_commit_in reading_of
returns-then-s-at c = record { said = (λ n. need-unmet _ _ _ (omega tests), tt); sorted = (tt, λ small. small) }

pub returns-then-s-at-2 : goal.returns-then-s-at-2
unfolding short_commit_at short_commit_in reading_of
returns-then-s-at-2 c = let count = c.byte_at-m.ensures.0 in record { said = (λ n. need-met _ _ _ (omega tests) (need-unmet _ _ _ (omega tests)), tt); sorted = (tt, λ small. small) }

pub returns : goal.returns
unfolding short_commit_at short_commit_in
returns c = let said = c.short_commit_of.ensures in record { said = (λ n. let says = said.said.0 n in need-met _ _ _ (omega tests) (need-met _ _ _ (omega tests) (cc)), said.said.1); sorted = said.sorted }
