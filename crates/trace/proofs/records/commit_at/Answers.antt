-- `trace::records::commit_at` meets its contract: the tests are those of commit_at, in their order. Assumes nothing.
use Rattle.search.proofs.Steps.{need-met, need-unmet, tests}
use Rattle.trace.specs.Format.{commit_at}
use Rattle.trace.specs.Meaning.{reading_of}
use Rattle.trace.proofs.records.commit_at.Goals as goal

pub returns-then-s-at : goal.returns-then-s-at
unfolding commit_at reading_of
returns-then-s-at c = record { said = (λ n. need-unmet _ _ _ (omega tests), tt); sorted = (tt, λ small. small) }

pub returns : goal.returns
unfolding commit_at
returns c = let said = c.commit_of.ensures in record { said = (λ n. let says = said.said.0 n in need-met _ _ _ (omega tests) (cc), said.said.1); sorted = said.sorted }
