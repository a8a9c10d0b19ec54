-- `trace::records::commit_of` meets its contract: the tests are those of commit_of, in their order. Assumes nothing.
use mathlib.Core.Path.{◌≡◌}
use borrow.Author.Rules.{rules}
use Rattle.std.specs.Prelude.{Err, Some}
use Rattle.trace.specs.declared.records.Why.TheVariants.{Body}
use native.Mathlib.Omega.{arith}
use Rattle.search.proofs.Steps.{need-met, need-unmet, tests}
use Rattle.trace.specs.Format.{commit_of}
use Rattle.trace.specs.Meaning.{listing_of, entry_of, reading_of, ListingFits, PlacesFit}
use Rattle.trace.specs.Sorted.{ListsBy, RecordSorted}
use Rattle.trace.proofs.Sorting.{says-fit, says-unfit}
use Rattle.trace.proofs.records.commit_of.Goals as goal

pub returns-then-u16_at-size : goal.returns-then-u16_at-size
unfolding commit_of listing_of entry_of reading_of ListingFits PlacesFit RecordSorted ListsBy
returns-then-u16_at-size c = record { said = (λ n. need-unmet _ _ _ (omega tests), tt); sorted = (tt, λ small. small) }

pub returns-then-s-at : goal.returns-then-s-at
unfolding commit_of listing_of entry_of reading_of ListingFits PlacesFit RecordSorted ListsBy
returns-then-s-at c = record { said = (λ n. need-met _ _ _ (omega tests) (need-unmet _ _ _ (omega tests)), tt); sorted = (tt, λ small. small) }

pub returns-then-clients-client : goal.returns-then-clients-client
unfolding commit_of listing_of entry_of reading_of ListingFits PlacesFit RecordSorted ListsBy
returns-then-clients-client c = record { said = (λ n. need-met _ _ _ (omega tests) (need-met _ _ _ (omega tests) (need-unmet _ _ _ (omega tests))), tt); sorted = (tt, λ small. small) }

pub returns-in_err-ranks : goal.returns-in_err-ranks
unfolding commit_of reading_of ListingFits
returns-in_err-ranks c =
    let sort = c.sort.ensures in
    let is : c.from_residual.result ≡ Err Body = search rules in
    let unfit = says-unfit _ _ _ _ _ (search rules) sort.said in rw is record { said = (λ n. need-met _ _ _ (omega tests) (need-met _ _ _ (omega tests) (need-met _ _ _ (omega tests) (need-unmet _ _ _ unfit))), tt); sorted = (tt, sort.small) }

pub returns : goal.returns
unfolding commit_of listing_of entry_of reading_of ListingFits PlacesFit RecordSorted ListsBy
returns c =
    let sort = c.sort.ensures in
    let is : c.sort.result ≡ Some c.in_ok-ranks.ranks = search rules in
    let (fit, sorted) = says-fit _ _ _ _ _ is sort.said in record { said = (λ n. need-met _ _ _ (omega tests) (need-met _ _ _ (omega tests) (need-met _ _ _ (omega tests) (need-met _ _ _ fit (cc)))), (omega arith, omega arith, (omega arith, fit))); sorted = ((sorted, tt), sort.small) }
