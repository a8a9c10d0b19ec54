-- `trace::records::first_ranks` meets its contract. Assumes nothing.
use Rattle.trace.proofs.Doubled.{even-or-next}
use Rattle.trace.proofs.records.first_ranks.Goals as goal

pub returns : goal.returns
returns c = even-or-next _ c.ranges.ranks.fits
