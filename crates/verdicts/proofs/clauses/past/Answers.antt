-- `verdicts::clauses::past` meets its contract. Assumes nothing.
use mathlib.Core.Logic.{⊎_elim}
use Rattle.verdicts.proofs.Asked.{not-asked}
use Rattle.verdicts.proofs.clauses.past.Goals as goal

pub returns-then-live-eq0 : goal.returns-then-live-eq0
returns-then-live-eq0 c = λ a. absurd (⊎_elim (not-asked c.args.live 24 c.if-live-eq0.true 3 tt) (not-asked c.args.live 24 c.if-live-eq0.true 4 tt) a)
