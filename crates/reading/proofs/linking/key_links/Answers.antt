-- `reading::linking::key_links` meets its contract. The loop's invariant: the versions that were passed have their links, and who wrote or read them is
-- kept. Assumes nothing.
use mathlib.Core.Path.{ap, ◌∙◌}
use native.Mathlib.Omega.{arith}
use Rattle.sets.specs.Set.{union}
use Rattle.reading.proofs.Passing.{earlier_more, links-more}
use Rattle.reading.proofs.linking.key_links.Goals as goal

pub loop-i-preserved : goal.loop-i-preserved
loop-i-preserved c =
    let l = c.loop-i in
    let own = c.single-own.ensures in
    let writer = c.byte_at-writer.ensures.0 in
    let readers = c.u64_at-readers.ensures in (
      earlier_more _ _ l.i l.earlier (omega arith) readers writer c.union.ensures (c.union-earlier.ensures ∙ ap (union c.union.result) own) l.invariant.0,
      links-more _ _ l.i l.earlier (omega arith) readers writer own c.without.ensures l.invariant.0 l.invariant.1 c.add.ensures c.reader_links.ensures,
    )
