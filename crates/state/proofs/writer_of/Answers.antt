-- `state::writer_of` meets its contract. Assumes nothing.
use mathlib.Core.Path.{refl}
use native.Mathlib.Omega.{arith}
use Rattle.state.specs.Places.{writer_in}
use Rattle.state.proofs.writer_of.Goals as goal

pub returns : goal.returns
unfolding writer_in
returns c = (refl, omega arith)
