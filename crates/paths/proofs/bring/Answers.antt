-- `paths::bring` meets its contract. The loop's invariant: the keys below some k that are read have gained the sets, and those from k on are
-- left. Assumes nothing.
use Prim.Native.Nat.{◌+◌, ◌/◌}
use native.Mathlib.Omega.{arith}
use Rattle.state.proofs.Accesses.{next-key, left-rest, left-none}
use Rattle.paths.proofs.Joined.{leads-turn, leads-passed}
use Rattle.paths.proofs.bring.Goals as goal

pub loop-twice-preserved : goal.loop-twice-preserved
loop-twice-preserved c =
    let l = c.loop-twice.invariant in
    let given = c.in-Some.ensures.steps in
    let k = next-key l.2 given in (
      c.in-Some.twice / 2 + 1,
      omega (arith, k.1),
      left-rest l.2 given,
      leads-turn _ _ _ k.0 k.3 l.3 k.2 (omega (arith, k.1)) (omega (arith, l.3.long)) c.union.ensures c.union-in-loop-twice.ensures,
    )

pub returns : goal.returns
returns c = let l = c.loop-twice.invariant in leads-passed _ _ _ l.1 (left-none l.2 c.in-None.ensures.steps.0) l.3
