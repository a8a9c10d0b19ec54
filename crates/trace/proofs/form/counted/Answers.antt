-- `trace::form::counted` meets its contract: a refusal stays, a commit too many is one, and any other record stays. Assumes nothing.
use mathlib.Core.Path.{refl}
use Rattle.search.proofs.Steps.{choose-first, choose-second, tests}
use Rattle.trace.specs.Meaning.{counted_of}
use Rattle.trace.proofs.form.counted.Goals as goal

pub returns-in_default : goal.returns-in_default
unfolding counted_of
returns-in_default c = λ s keys. rw c.in_default.is

pub returns-then-count-gt-COMMITS : goal.returns-then-count-gt-COMMITS
unfolding counted_of
returns-then-count-gt-COMMITS c =
    λ s keys. let counted = c.commits_with-count.ensures s keys in rw c.in-Ok.is (choose-second _ _ _ (omega tests) refl)

pub returns : goal.returns
unfolding counted_of
returns c =
    λ s keys. let counted = c.commits_with-count.ensures s keys in rw c.in-Ok.is (choose-first _ _ _ (omega tests) refl)
