-- `paths::walk` meets its contract. The loop's invariant: the walk so far, of each store that the array keeps, and that no number is both taken
-- and to be taken. The measure: the numbers taken, as a word, make a larger number at each round. Assumes nothing.
use Prim.Native.Nat.{◌*◌}
use native.Mathlib.Omega.{arith}
use Rattle.store.specs.Limits.{numbers}
use Rattle.paths.proofs.Walked.{walk_first, walk_turn, walk_ends, more-done, still-apart}
use Rattle.paths.proofs.walk.Goals as goal

pub loop-left-init : goal.loop-left-init
loop-left-init c = (
  omega (arith, c.without-left.type_inv),
  still-apart _ _ c.without-left.ensures,
  λ s k is. walk_first c.ranges.set.fits c.args.links.now (numbers * c.args.kind) (k.steps _ c.requires.1) _ is c.without-left.ensures,
)

pub loop-left-smaller : goal.loop-left-smaller
loop-left-smaller c =
    let l = c.loop-left in
    omega (arith, more-done _ _ l.invariant.1 c.loop-left-test.true l.invariant.0 c.union-done.ensures, c.union-done.type_inv)

pub loop-left-preserved : goal.loop-left-preserved
loop-left-preserved c =
    let l = c.loop-left in (
      omega (arith, c.without-left-in-loop-left.type_inv),
      still-apart _ _ c.without-left-in-loop-left.ensures,
      λ s k is. walk_turn (l.invariant.2 s k is) l.invariant.0 c.args.links.now (numbers * c.args.kind) (k.steps _ c.requires.1) _ c.gather.ensures c.union-all.ensures c.union-done.ensures c.without-left-in-loop-left.ensures,
    )

pub returns : goal.returns
returns c = λ s k is. walk_ends (rw c.loop-left-test.false at (c.loop-left.invariant.2 s k is))
