-- `placing::place` meets its contract. Assumes nothing.
use Rattle.ordering.specs.Rows.{links_in}
use Rattle.placing.proofs.Listing.{Listed}
use Rattle.placing.proofs.place.Given as goal

abbrev pub invariant-loop-slot : goal.invariant-loop-slot
invariant-loop-slot l = Listed l.n (links_in l.rows) l.initial.slot-items l.slot-items l.placed l.slot-index
