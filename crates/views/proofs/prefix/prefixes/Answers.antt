-- `views::prefix::prefixes` meets its contract. Where no gap was found, no mask has one. Assumes nothing.
use Rattle.std.proofs.Common.{rules}
use Rattle.views.proofs.Downward.{no_gaps}
use Rattle.views.proofs.prefix.prefixes.Goals as goal

pub returns : goal.returns
returns c = λ e k l. let p = c.gathered.ensures.none (no_gaps _ e) k l in search rules
