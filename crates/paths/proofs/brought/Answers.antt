-- `paths::brought` meets its contract. The loop's invariant: what the keys below some k bring along is gathered, and the keys from k on that
-- are written are left. Assumes nothing.
use Prim.Native.Nat.{◌+◌, ◌/◌}
use native.Mathlib.Omega.{arith}
use Rattle.state.proofs.Accesses.{next-key, left-rest, left-none}
use Rattle.paths.proofs.Joined.{brought-turn, brought-passed}
use Rattle.paths.proofs.brought.Goals as goal

pub loop-twice-preserved : goal.loop-twice-preserved
loop-twice-preserved c =
    let a = c.args in
    let l = c.loop-twice.invariant in
    let given = c.in-Some.ensures.steps in
    let k = next-key l.2 given in (
      c.in-Some.twice / 2 + 1,
      omega (arith, k.1),
      left-rest l.2 given,
      brought-turn 0 a.links.now a.ranks _ l.3 k.0 k.3 k.2 (omega arith) c.union-prefix.ensures,
      brought-turn 1 a.links.now a.ranks _ l.4 k.0 k.3 k.2 (omega arith) c.union-snapshot.ensures,
    )

pub returns : goal.returns
returns c =
    let a = c.args in
    let l = c.loop-twice.invariant in
    let n = left-none l.2 c.in-None.ensures.steps.0 in
    (brought-passed 0 a.links.now a.ranks _ l.3 l.1 n, brought-passed 1 a.links.now a.ranks _ l.4 l.1 n)
