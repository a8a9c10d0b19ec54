-- `endian::u16_at` meets its contract: a number of 2 bytes is two of 1. Assumes nothing.
use native.Mathlib.Omega.{arith}
use Rattle.endian.proofs.Laws.{le_at-add}
use Rattle.endian.proofs.u16_at.Goals as goal

pub returns : goal.returns
returns c = omega (arith, le_at-add c.args.s.now 1 1 c.args.at)
