-- `placing::step_back` meets its contract. Assumes nothing.
use borrow.Author.Rules.{rules}
use native.Mathlib.Omega.{arith}
use Rattle.placing.proofs.Ready.{back-lowest}
use Rattle.placing.proofs.step_back.Goals as goal

pub returns : goal.returns
returns c = (λ n between. back-lowest c.args.rows.now n c.args.placed between c.args.c c.without-awaited.ensures (omega arith) (search rules) c.lowest.ensures.0, omega arith)
