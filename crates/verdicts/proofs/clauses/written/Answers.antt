-- `verdicts::clauses::written` meets its contract. Assumes nothing.
use Rattle.verdicts.proofs.Asked.{not-asked}
use Rattle.verdicts.proofs.clauses.written.Goals as goal

pub returns-then-live-eq0 : goal.returns-then-live-eq0
returns-then-live-eq0 c = λ a. absurd (not-asked c.args.live 32 c.if-live-eq0.true 5 tt a)
