-- `sets::rest` meets its contract. Assumes nothing.
use Prim.Native.Nat.{◌-◌}
use native.Mathlib.Omega.{arith}
use lib.Bits.{and_le_r}
use Rattle.sets.proofs.Words.{and-pred}
use Rattle.sets.proofs.rest.Goals as goal

pub returns : goal.returns
returns c = (and-pred _ c.requires c.ranges.m.fits, omega (arith, and_le_r c.args.m (c.args.m - 1)))
