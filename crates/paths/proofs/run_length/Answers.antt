-- `paths::run_length` meets its contract: what is below the lowest number that is absent is in the set. Assumes nothing.
use borrow.Author.Rules.{rules}
use Rattle.paths.proofs.Swept.{run-of-all, run-to-lowest}
use Rattle.paths.proofs.run_length.Goals as goal

pub returns-then-absent-eq0 : goal.returns-then-absent-eq0
returns-then-absent-eq0 c = (search rules, run-of-all _ c.without-absent.ensures c.if-absent-eq0.true)

pub returns : goal.returns
returns c = (search rules, λ i l. run-to-lowest _ c.without-absent.ensures (search rules) (search rules) i (rw c.lowest.ensures.0 at l))
