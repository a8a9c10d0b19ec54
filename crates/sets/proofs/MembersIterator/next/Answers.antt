-- `sets::Members` gives the numbers of a set from the least on. Assumes nothing.
use Prim.Native.Nat.{◌^◌, ◌<◌}
use native.Mathlib.Omega.{arith}
use Rattle.sets.proofs.Laws.{gives-lowest}
use Rattle.sets.proofs.MembersIterator.next.Goals as goal

pub returns-clause-steps : goal.returns-clause-steps
returns-clause-steps c =
    let word : c.args.self.now.0 < 2 ^ 64 = omega arith in rw (c.lowest-i.ensures.0, c.rest-self.ensures.0) (gives-lowest c.args.self.now.0 (omega arith) word)
