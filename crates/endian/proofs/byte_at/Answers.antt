-- `endian::byte_at` meets its contract: an element of a slice of bytes is below 256. Assumes nothing.
use native.Mathlib.Omega.{arith}
use Rattle.endian.specs.Endian.{le_at}
use Rattle.endian.proofs.byte_at.Goals as goal

pub overflow_cast-result : goal.overflow_cast-result
overflow_cast-result c = omega (arith, c.shared_slice_known-1.given c.args.at)

pub returns : goal.returns
unfolding le_at
returns c = omega (arith, c.shared_slice_known-1.given c.args.at)
