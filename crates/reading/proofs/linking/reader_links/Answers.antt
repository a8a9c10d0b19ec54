-- `reading::linking::reader_links` meets its contract. The loop's invariant: the readers that were passed have their link. Assumes nothing.
use Rattle.reading.proofs.Rows.{shared-none, shared-more, shared-done}
use Rattle.reading.proofs.linking.reader_links.Goals as goal

pub loop-reader-init : goal.loop-reader-init
loop-reader-init c = rw c.into_iter-reader-iterator.ensures.into_iter_gives (shared-none _ _ _ c.requires.0)

pub loop-reader-preserved : goal.loop-reader-preserved
loop-reader-preserved c = shared-more c.loop-reader.invariant c.in-Some.ensures.steps c.single-from.ensures c.add.ensures

pub returns : goal.returns
returns c = shared-done c.loop-reader.invariant c.in-None.ensures.steps.0
