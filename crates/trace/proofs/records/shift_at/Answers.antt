-- `trace::records::shift_at` meets its contract: the tests are those of shift_at, in their order. Assumes nothing.
use native.Mathlib.Omega.{arith}
use Rattle.trace.specs.Format.{shift_at}
use Rattle.search.proofs.Steps.{need-met, need-unmet, tests}
use Rattle.trace.specs.Meaning.{listing_of, entry_of, reading_of, ListingFits, PlacesFit}
use Rattle.trace.proofs.records.shift_at.Goals as goal

pub returns-then-u16_at-size : goal.returns-then-u16_at-size
unfolding shift_at listing_of entry_of reading_of ListingFits PlacesFit
returns-then-u16_at-size c = (λ n. need-unmet _ _ _ (omega tests), tt)

pub returns-then-s-at : goal.returns-then-s-at
unfolding shift_at listing_of entry_of reading_of ListingFits PlacesFit
returns-then-s-at c = (λ n. need-met _ _ _ (omega tests) (need-unmet _ _ _ (omega tests)), tt)

pub returns-then-clients-client : goal.returns-then-clients-client
unfolding shift_at listing_of entry_of reading_of ListingFits PlacesFit
returns-then-clients-client c = (λ n. need-met _ _ _ (omega tests) (need-met _ _ _ (omega tests) (need-unmet _ _ _ (omega tests))), tt)

pub returns-then-byte_at-ne0 : goal.returns-then-byte_at-ne0
unfolding shift_at listing_of entry_of reading_of ListingFits PlacesFit
returns-then-byte_at-ne0 c = (λ n. need-met _ _ _ (omega tests) (need-met _ _ _ (omega tests) (need-met _ _ _ (omega tests) (need-unmet _ _ _ (omega tests)))), tt)

pub returns : goal.returns
unfolding shift_at listing_of entry_of reading_of ListingFits PlacesFit
returns c = (λ n. need-met _ _ _ (omega tests) (need-met _ _ _ (omega tests) (need-met _ _ _ (omega tests) (need-met _ _ _ (omega tests) (cc)))), (omega arith, omega arith))
