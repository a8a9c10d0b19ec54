-- `endian::u32_at` meets its contract: a number of 4 bytes is two of 2. Assumes nothing.
use native.Mathlib.Omega.{arith}
use Rattle.endian.proofs.Laws.{le_at-add}
use Rattle.endian.proofs.u32_at.Goals as goal

pub returns : goal.returns
returns c = omega (arith, le_at-add c.args.s.now 2 2 c.args.at)
