-- `verdicts::clauses::leads` meets its contract. Assumes nothing.
use mathlib.Core.Logic.{⊎_elim}
use Rattle.verdicts.proofs.Asked.{not-asked}
use Rattle.verdicts.proofs.clauses.leads.Goals as goal

pub returns-then-live-eq0 : goal.returns-then-live-eq0
returns-then-live-eq0 c = record { set = λ a s k e f. absurd (⊎_elim (not-asked c.args.live 192 c.if-live-eq0.true 6 tt) (not-asked c.args.live 192 c.if-live-eq0.true 7 tt) a); kept = λ s k e f. f }

pub returns : goal.returns
returns c =
    let caught = c.catch_up in record { set = λ a s k e f. c.leading.ensures s (caught.ensures s k e f).0; kept = λ s k e f. (caught.ensures s k e f).1 }
