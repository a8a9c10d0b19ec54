-- `making::before_of` meets its contract. Assumes nothing.
use mathlib.Core.Path.{refl}
use Rattle.search.proofs.Steps.{tests, choose-first, choose-second}
use Rattle.making.proofs.before_of.Goals as goal

pub returns-then-ranks-eq0 : goal.returns-then-ranks-eq0
returns-then-ranks-eq0 c = choose-first _ _ _ (omega tests) refl

pub returns : goal.returns
returns c = choose-second _ _ _ (omega tests) refl
