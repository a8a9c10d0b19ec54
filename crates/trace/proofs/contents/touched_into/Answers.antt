-- `trace::contents::touched_into` meets its contract: the masks up to a key are put, and the others are as they were. Assumes nothing.
use mathlib.Core.Path.{refl}
use native.Mathlib.Omega.{arith}
use Rattle.trace.proofs.Masks.{by-none, by_key, by-room, by-more, by_all}
use Rattle.trace.proofs.contents.touched_into.Goals as goal

pub loop-twice-init : goal.loop-twice-init
loop-twice-init c = rw c.into_iter-twice-iterator.ensures.into_iter_gives (by-none _ _ _ _ c.ranges.ranks.fits c.first_ranks.ensures)

pub u64_at-requires : goal.u64_at-requires
u64_at-requires c = omega (arith, by-room _ _ _ _ c.ranges.ranks.fits c.loop-twice.invariant c.in-Some.ensures.steps, c.requires.0)

pub bounds-masks-twice : goal.bounds-masks-twice
bounds-masks-twice c =
    let l = c.loop-twice.invariant in omega (arith, l.putting.filled.same_length, c.requires.1 _ (by_key _ _ _ _ c.ranges.ranks.fits l c.in-Some.ensures.steps))

pub overflow_add-at : goal.overflow_add-at
overflow_add-at c = omega (arith, by-room _ _ _ _ c.ranges.ranks.fits c.loop-twice.invariant c.in-Some.ensures.steps, c.requires.0)

pub loop-twice-preserved : goal.loop-twice-preserved
loop-twice-preserved c =
    let l = c.loop-twice.invariant in
    let given = c.in-Some.ensures.steps in
    by-more _ _ _ _ c.ranges.ranks.fits l given (c.requires.1 _ (by_key _ _ _ _ c.ranges.ranks.fits l given)) c.u64_at.ensures refl

pub returns : goal.returns
returns c = by_all _ _ _ _ c.ranges.ranks.fits c.loop-twice.invariant c.in-None.ensures.steps.0
