-- `views::prefix::gaps` meets its contract. Assumes nothing.
use Rattle.std.proofs.Common.{sym, ap, ◌∙◌}
use lib.Bits.{bit_and}
use Rattle.views.proofs.Downward.{downward}
use Rattle.views.proofs.prefix.gaps.Goals as goal

pub returns : goal.returns
returns c = λ e. downward c.args.mask c.ranges.mask.fits (ap (bit_and c.args.mask) (sym c.wrapping_add_u64.ensures.value) ∙ e)
