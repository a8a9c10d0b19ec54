-- `words::put_count` meets its contract: two stores in a row put two words. Assumes nothing.
use mathlib.Core.Path.{refl}
use mathlib.Core.List.{[], ◌∷◌}
use native.Mathlib.Omega.{arith}
use lib.ListN.{length-set}
use lib.Seq.{sets-eq}
use Rattle.words.proofs.put_count.Goals as goal

pub bounds-out-1 : goal.bounds-out-1
bounds-out-1 c = simp length-set (omega (arith, c.requires))

pub returns : goal.returns
returns c = (refl, sets-eq (_ ∷ _ ∷ []) c.args.out.now 0 (omega (arith, c.requires)))
