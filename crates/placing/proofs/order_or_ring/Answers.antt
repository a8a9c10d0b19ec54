-- `placing::order_or_ring` meets its contract. Assumes nothing.
use borrow.Author.Rules.{rules}
use mathlib.Core.Path.{ap}
use native.Mathlib.Omega.{arith}
use lib.ListN.{length, replicate}
use Rattle.store.specs.Limits.{numbers}
use Rattle.placing.proofs.Whole.{ends-order, walk-stuck, ring_long, ends-ring}
use Rattle.placing.proofs.order_or_ring.Goals as goal

pub returns-then-left-eq0 : goal.returns-then-left-eq0
returns-then-left-eq0 c =
    let all = ends-order c.args.rows.now _ c.requires.2 c.place-placed.ensures.placed c.unplaced-left.ensures c.if-left-eq0.true (replicate numbers 0) c.place-placed.ensures.written c.put_bytes-count.ensures in
    record { shown = all.0; written = all.1 }

pub walk_back-part-requires-clause-stuck : goal.walk_back-part-requires-clause-stuck
walk_back-part-requires-clause-stuck c = walk-stuck c.args.rows.now _ c.requires.2 c.place-placed.ensures.placed c.unplaced-left.ensures (omega arith) (search rules) c.lowest-start.ensures.0

pub put_bytes-count-requires-2 : goal.put_bytes-count-requires-2
put_bytes-count-requires-2 c = omega (arith, ap length c.walk_back-part.ensures.ring, ring_long c.args.rows.now _ c.requires.2 c.place-placed.ensures.placed c.unplaced-left.ensures (omega arith) (search rules) c.lowest-start.ensures.0)

pub returns : goal.returns
returns c =
    let all = ends-ring c.args.rows.now _ c.requires.2 c.place-placed.ensures.placed c.unplaced-left.ensures (omega arith) (search rules) c.lowest-start.ensures.0 c.walk_back-part.ensures.ring c.put_bytes-count-2.ensures in
    record { shown = all.0; written = all.1 }
