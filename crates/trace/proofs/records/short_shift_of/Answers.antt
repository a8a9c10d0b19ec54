-- `trace::records::short_shift_of` meets its contract: the tests are those of short_shift_of, in their order. Assumes nothing.
use native.Mathlib.Omega.{arith}
use borrow.Author.Tests.{le-ltb, lt-ltb}
use Rattle.trace.specs.Format.{short_shift_of}
use Rattle.search.proofs.Steps.{need-met, need-unmet, tests}
use Rattle.trace.specs.Meaning.{listing_of, entry_of, reading_of, ListingFits, PlacesFit}
use Rattle.trace.proofs.Counted.{above, under}
use Rattle.trace.proofs.records.short_shift_of.Goals as goal

pub returns-then-size : goal.returns-then-size
unfolding short_shift_of listing_of entry_of reading_of ListingFits PlacesFit
returns-then-size c = (λ n. need-unmet _ _ _ (omega tests), tt)

pub returns-then-s-at : goal.returns-then-s-at
unfolding short_shift_of listing_of entry_of reading_of ListingFits PlacesFit
returns-then-s-at c = (λ n. need-met _ _ _ (omega tests) (need-unmet _ _ _ (omega tests)), tt)

pub returns-then-clients-client : goal.returns-then-clients-client
unfolding short_shift_of listing_of entry_of reading_of ListingFits PlacesFit
returns-then-clients-client c = (λ n. need-met _ _ _ (omega tests) (need-met _ _ _ (omega tests) (need-unmet _ _ _ (omega tests))), tt)

pub returns-then-byte_at-ne0 : goal.returns-then-byte_at-ne0
unfolding short_shift_of listing_of entry_of reading_of ListingFits PlacesFit
returns-then-byte_at-ne0 c = (λ n. need-met _ _ _ (omega tests) (need-met _ _ _ (omega tests) (need-met _ _ _ (omega tests) (need-unmet _ _ _ (omega tests)))), tt)

pub returns-then-listed-keys-ne0 : goal.returns-then-listed-keys-ne0
unfolding short_shift_of listing_of entry_of reading_of ListingFits PlacesFit
returns-then-listed-keys-ne0 c = (λ n. need-met _ _ _ (omega tests) (need-met _ _ _ (omega tests) (need-met _ _ _ (omega tests) (need-met _ _ _ (omega tests) (need-unmet _ _ _ (le-ltb _ _ (above _ _ c.if-listed-keys-ne0.true)))))), tt)

pub returns : goal.returns
unfolding short_shift_of listing_of entry_of reading_of ListingFits PlacesFit
returns c = (λ n. need-met _ _ _ (omega tests) (need-met _ _ _ (omega tests) (need-met _ _ _ (omega tests) (need-met _ _ _ (omega tests) (need-met _ _ _ (lt-ltb _ _ (under _ _ c.if-listed-keys-ne0.false)) cc)))), ((omega arith, under _ _ c.if-listed-keys-ne0.false), omega arith))
