-- `writing::put_listed` meets its contract. The loop's invariant: the masks of the keys passed stand from `at` on. Assumes nothing.
use mathlib.Core.Path.{refl}
use native.Mathlib.Omega.{arith}
use Rattle.writing.proofs.Listing.{listed-none, listed-room, listed-one, listed-all}
use Rattle.writing.proofs.put_listed.Goals as goal

pub loop-k-init : goal.loop-k-init
loop-k-init c = rw c.into_iter-k-iterator.ensures.into_iter_gives (listed-none _ _ _ _ _)

pub put_u64-requires : goal.put_u64-requires
put_u64-requires c = let l = c.loop-k.invariant in omega (arith, listed-room l c.in-Some.ensures.steps c.ranges.listed.fits, l.same_length)

pub overflow_add-to : goal.overflow_add-to
overflow_add-to c = omega (arith, listed-room c.loop-k.invariant c.in-Some.ensures.steps c.ranges.listed.fits)

pub loop-k-preserved : goal.loop-k-preserved
loop-k-preserved c = listed-one c.loop-k.invariant c.in-Some.ensures.steps c.ranges.listed.fits c.requires.0 refl c.put_u64.ensures (omega arith)

pub returns : goal.returns
returns c = listed-all c.loop-k.invariant c.in-None.ensures.steps.0
