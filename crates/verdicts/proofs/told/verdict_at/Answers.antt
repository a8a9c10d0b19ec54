-- `verdicts::told::verdict_at` meets its contract. Assumes nothing.
use Rattle.verdicts.proofs.Words.{told-accepted, told-refused}
use Rattle.verdicts.proofs.told.verdict_at.Goals as goal

pub returns-then-clause-eq0 : goal.returns-then-clause-eq0
returns-then-clause-eq0 c = told-accepted _ _ c.if-clause-eq0.true

pub returns : goal.returns
returns c = told-refused _ _ c.if-clause-eq0.false
