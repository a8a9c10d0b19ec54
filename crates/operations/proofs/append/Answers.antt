-- `operations::append` meets its contract. The keys passed have their new versions, the others are as before, and the set is that of the keys passed. Assumes nothing.
use Rattle.std.proofs.Common.{◌+◌, ◌/◌, arith}
use Rattle.state.proofs.Accesses.{left-rest, turn_below}
use Rattle.operations.proofs.Appended.{earlier-turn, write-appended, all-earlier, writes-appended}
use Rattle.operations.proofs.append.Goals as goal

pub loop-twice-preserved : goal.loop-twice-preserved
loop-twice-preserved c =
    let (k, small, h, room, room', p) = c.loop-twice.invariant in
    let given = c.in-Some.ensures.steps in (
      c.in-Some.twice / 2 + 1,
      omega (arith, turn_below h given),
      left-rest h given,
      omega arith,
      omega arith,
      λ s d g. (
        write-appended g _ h (omega arith) given _ _ (p s d g).0 (omega arith) c.append_at.ensures.0 c.append_at.ensures.1,
        earlier-turn g _ h (omega arith) given _ _ (p s d g).0 _ (p s d g).1 c.union-earlier.ensures,
      ),
    )

pub returns : goal.returns
returns c =
    let (k, small, h, room, room', p) = c.loop-twice.invariant in
    let none = c.in-None.ensures.steps.0 in
    λ s d g. let x = writes-appended g _ h _ _ small none (omega arith) (omega arith) (p s d g).0 in (x.0, x.1, all-earlier g 0 h small none _ (p s d g).1)
