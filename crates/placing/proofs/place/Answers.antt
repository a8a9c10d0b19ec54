-- `placing::place` meets its contract. Assumes nothing.
use native.Mathlib.Omega.{arith}
use lib.ListN.{length-take}
use Rattle.std.proofs.lemmas.List.{set-get_or}
use Rattle.placing.proofs.Listing.{listed_start, listed_next, listed-stop, listed-full}
use Rattle.placing.proofs.place.Goals as goal

pub loop-slot-init : goal.loop-slot-init
loop-slot-init c = listed_start _ _ _ (omega arith)

pub returns-in_default : goal.returns-in_default
returns-in_default c =
    let d = c.args.order.now in
    let all = listed-stop c.args.n _ d (omega arith) c.loop-slot.invariant c.in_default.ensures (omega (arith, length-take c.args.n d)) in
    record { placed = all.0; written = rw set-get_or all.1 }

pub loop-slot-preserved : goal.loop-slot-preserved
loop-slot-preserved c =
    let d = c.args.order.now in
    listed_next _ _ d (omega arith) c.loop-slot.invariant c.in-Some.ensures.0 (omega (arith, length-take c.args.n d)) c.insert-placed.ensures

pub returns : goal.returns
returns c =
    let d = c.args.order.now in
    let all = listed-full c.args.n _ d (omega arith) c.loop-slot.invariant (omega (arith, length-take c.args.n d)) in
    record { placed = all.0; written = all.1 }
