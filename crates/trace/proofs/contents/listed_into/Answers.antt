-- `trace::contents::listed_into` meets its contract: the masks up to a key are put, and the others are as they were. Assumes nothing.
use mathlib.Core.Path.{refl}
use native.Mathlib.Omega.{arith}
use Rattle.trace.proofs.Masks.{putting-none, putting-room, putting-key, putting-more, putting-all}
use Rattle.trace.proofs.contents.listed_into.Goals as goal

pub loop-k-init : goal.loop-k-init
loop-k-init c = rw c.into_iter-k-iterator.ensures.into_iter_gives (putting-none _ _ _ _)

pub u64_at-requires : goal.u64_at-requires
u64_at-requires c = omega (arith, putting-room c.loop-k.invariant c.in-Some.ensures.steps c.ranges.listed.fits)

pub overflow_add-at : goal.overflow_add-at
overflow_add-at c = omega (arith, putting-room c.loop-k.invariant c.in-Some.ensures.steps c.ranges.listed.fits)

pub loop-k-preserved : goal.loop-k-preserved
loop-k-preserved c =
    let l = c.loop-k.invariant in
    let given = c.in-Some.ensures.steps in
    putting-more l given (c.requires.1 _ (putting-key l given)) c.u64_at.ensures refl

pub returns : goal.returns
returns c = putting-all c.loop-k.invariant c.in-None.ensures.steps.0
