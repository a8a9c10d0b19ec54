-- `pieces::ended` meets its contract. Assumes nothing.
use mathlib.Core.Path.{refl}
use Rattle.search.proofs.Steps.{tests, need-met, need-unmet}
use Rattle.pieces.specs.Close.{shut}
use Rattle.pieces.proofs.ended.Goals as goal

pub returns-then-was-ne0 : goal.returns-then-was-ne0
unfolding shut
returns-then-was-ne0 c = need-unmet _ _ _ (omega tests)

pub returns : goal.returns
unfolding shut
returns c = need-met _ _ _ (omega tests) refl
