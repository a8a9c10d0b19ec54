-- `reading::linking::reader_links` meets its contract. The loop's invariant: the readers that were passed have their link. Assumes nothing.
use Rattle.reading.proofs.Rows.{Shared}
use Rattle.reading.proofs.linking.reader_links.Given as goal

abbrev pub invariant-loop-reader : goal.invariant-loop-reader
invariant-loop-reader l = Shared l.initial.rows l.rows l.writer l.readers l.reader-iterator.0
