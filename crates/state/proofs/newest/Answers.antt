-- `state::newest` meets its contract. Assumes nothing.
use mathlib.Core.Path.{◌∙◌}
use borrow.Author.Rules.{rules}
use Rattle.state.proofs.Sets.{opened_some, highest-opened}
use Rattle.state.proofs.newest.Goals as goal

pub highest-requires : goal.highest-requires
highest-requires c = opened_some c.args.mask

pub returns : goal.returns
returns c = (c.highest.ensures.0 ∙ highest-opened c.args.mask c.ranges.mask.fits, search rules)
