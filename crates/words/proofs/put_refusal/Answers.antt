-- `words::put_refusal` meets its contract: five stores in a row put five words. Assumes nothing.
use mathlib.Core.Path.{refl}
use native.Mathlib.Omega.{arith}
use lib.ListN.{length-set}
use lib.Seq.{sets-eq}
use Rattle.state.specs.Answers.{refusal_of}
use Rattle.words.specs.Layout.{refusal_words}
use Rattle.words.proofs.put_refusal.Goals as goal

pub bounds-out-1 : goal.bounds-out-1
bounds-out-1 c = simp length-set (omega (arith, c.requires))

pub bounds-out-2 : goal.bounds-out-2
bounds-out-2 c = simp length-set (omega (arith, c.requires))

pub bounds-out-3 : goal.bounds-out-3
bounds-out-3 c = simp length-set (omega (arith, c.requires))

pub returns : goal.returns
returns c =
    (refl, sets-eq (refusal_words (refusal_of c.args.r)) c.args.out.now 0 c.requires)
