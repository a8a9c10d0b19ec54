-- `endian::u64_at` meets its contract: a number of 8 bytes is two of 4. Assumes nothing.
use native.Mathlib.Omega.{arith}
use Rattle.endian.proofs.Laws.{le_at-add}
use Rattle.endian.proofs.u64_at.Goals as goal

pub returns : goal.returns
returns c = omega (arith, le_at-add c.args.s.now 4 4 c.args.at)
