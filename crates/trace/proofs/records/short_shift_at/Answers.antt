-- `trace::records::short_shift_at` meets its contract: the tests are those of short_shift_at, in their order. Assumes nothing.
use Rattle.trace.specs.Format.{short_shift_at}
use Rattle.search.proofs.Steps.{need-met, need-unmet, tests}
use Rattle.trace.specs.Meaning.{listing_of, entry_of, reading_of, ListingFits, PlacesFit}
use Rattle.trace.proofs.records.short_shift_at.Goals as goal

pub returns-then-s-at : goal.returns-then-s-at
unfolding short_shift_at listing_of entry_of reading_of ListingFits PlacesFit
returns-then-s-at c = (λ n. need-unmet _ _ _ (omega tests), tt)

pub returns : goal.returns
unfolding short_shift_at
returns c = (λ n. let said = c.short_shift_of.ensures.0 n in need-met _ _ _ (omega tests) cc, c.short_shift_of.ensures.1)
