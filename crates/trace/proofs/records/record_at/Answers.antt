-- `trace::records::record_at` meets its contract: the tests are those of record_at, in their order. Assumes nothing.
use mathlib.Core.Path.{◌≡◌, refl}
use borrow.Author.Rules.{rules}
use Rattle.std.specs.Prelude.{Err}
use Rattle.search.proofs.Steps.{need-met, need-unmet, choose-first, choose-second, tests}
use Rattle.trace.specs.Format.{record_at}
use Rattle.trace.specs.Meaning.{reading_of}
use Rattle.trace.proofs.Sorting.{shift-unsorted, short-shift-unsorted}
use Rattle.trace.proofs.records.record_at.Goals as goal

pub returns-then-s-at : goal.returns-then-s-at
unfolding record_at reading_of
returns-then-s-at c = record { said = (λ n. need-unmet _ _ _ (omega tests), tt); sorted = (tt, λ small. small) }

pub returns-in_err-shift_at-in-2 : goal.returns-in_err-shift_at-in-2
unfolding record_at reading_of
returns-in_err-shift_at-in-2 c =
    let said = rw c.in_err-shift_at-in-2.was at c.shift_at.ensures in
    let is : c.from_residual.result ≡ Err c.in_err-shift_at-in-2.field-0.0 = search rules in
    rw is record { said = (λ n. need-met _ _ _ (omega tests) (choose-first _ _ _ (omega tests) (said.0 n)), tt); sorted = (tt, λ small. small) }

pub returns-in_ok-shift_at-in-2 : goal.returns-in_ok-shift_at-in-2
unfolding record_at reading_of
returns-in_ok-shift_at-in-2 c =
    let said = rw c.in_ok-shift_at-in-2.was at c.shift_at.ensures in
    rw c.unsorted.ensures record { said = (λ n. need-met _ _ _ (omega tests) (choose-first _ _ _ (omega tests) (said.0 n)), said.1); sorted = (shift-unsorted _ _ _ _ _ _ _ _ (said.0 0), λ small. small) }

pub returns-in-3 : goal.returns-in-3
unfolding record_at
returns-in-3 c = let said = c.commit_at.ensures in record { said = (λ n. need-met _ _ _ (omega tests) (choose-second _ _ _ (omega tests) (choose-first _ _ _ (omega tests) (said.said.0 n))), said.said.1); sorted = said.sorted }

pub returns-in-5 : goal.returns-in-5
unfolding record_at
returns-in-5 c = let said = c.short_commit_at.ensures in record { said = (λ n. need-met _ _ _ (omega tests) (choose-second _ _ _ (omega tests) (choose-second _ _ _ (omega tests) (choose-first _ _ _ (omega tests) (said.said.0 n)))), said.said.1); sorted = said.sorted }

pub returns-in_err-short_shift_at-in-6 : goal.returns-in_err-short_shift_at-in-6
unfolding record_at reading_of
returns-in_err-short_shift_at-in-6 c =
    let said = rw c.in_err-short_shift_at-in-6.was at c.short_shift_at.ensures in
    let is : c.from_residual-in_err-short_shift_at-in-6.result ≡ Err c.in_err-short_shift_at-in-6.field-0.0 = search rules in
    rw is record { said = (λ n. need-met _ _ _ (omega tests) (choose-second _ _ _ (omega tests) (choose-second _ _ _ (omega tests) (choose-second _ _ _ (omega tests) (choose-first _ _ _ (omega tests) (said.0 n))))), tt); sorted = (tt, λ small. small) }

pub returns-in_ok-short_shift_at-in-6 : goal.returns-in_ok-short_shift_at-in-6
unfolding record_at reading_of
returns-in_ok-short_shift_at-in-6 c =
    let said = rw c.in_ok-short_shift_at-in-6.was at c.short_shift_at.ensures in
    rw c.unsorted-in-6.ensures record { said = (λ n. need-met _ _ _ (omega tests) (choose-second _ _ _ (omega tests) (choose-second _ _ _ (omega tests) (choose-second _ _ _ (omega tests) (choose-first _ _ _ (omega tests) (said.0 n))))), said.1); sorted = (short-shift-unsorted _ _ _ _ _ _ _ _ (said.0 0), λ small. small) }

pub returns-in_default : goal.returns-in_default
unfolding record_at reading_of
returns-in_default c = record { said = (λ n. need-met _ _ _ (omega tests) (choose-second _ _ _ (omega tests) (choose-second _ _ _ (omega tests) (choose-second _ _ _ (omega tests) (choose-second _ _ _ (omega tests) (refl))))), tt); sorted = (tt, λ small. small) }
