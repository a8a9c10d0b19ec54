-- `views::masks::lacked` meets its contract. Assumes nothing.
use Rattle.std.proofs.Common.{rules}
use Rattle.views.proofs.masks.lacked.Goals as goal

pub returns : goal.returns
returns c = λ z k l. let p = c.gathered.ensures.none z k l in search rules
