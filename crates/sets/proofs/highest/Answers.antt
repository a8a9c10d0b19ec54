-- `sets::highest` meets its contract. Assumes nothing.
use native.Mathlib.Omega.{arith}
use Rattle.sets.specs.Set.{highest}
use Rattle.sets.proofs.highest.Goals as goal

pub returns : goal.returns
unfolding highest
returns c = omega arith
