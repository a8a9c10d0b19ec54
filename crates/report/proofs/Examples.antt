-- 01's worked reports, by computing. Assumes nothing.
use Prim.Native.Nat.{ℕ, ◌^◌, ◌-◌}
use mathlib.Core.Path.{◌≡◌, refl}
use mathlib.Core.Logic.{◌≢◌}
use mathlib.Core.Option.{Option, some, none}
use mathlib.Core.List.{[], ◌∷◌}
use lib.ListN.{length}
use borrow.Author.Tests.{ne_eqb}
use Rattle.search.specs.Choose.{choose}
use Rattle.text.specs.Ascii.{ascii}
use Rattle.text.specs.Decimal.{decimal}
use Rattle.text.specs.Lines.{word, number, line}
use Rattle.store.specs.Store.{CommitNumber}
use Rattle.store.specs.Refusal.{Refusal, refuse, refuse_read}
use Rattle.trace.specs.Result.{refused, taken}
use Rattle.verdicts.specs.Told.{Told}
use Rattle.report.specs.Report.{refusal_line, counts_line, verdict_line, report_text}
use Rattle.report.specs.Longest.{longest_report}

-- a level that is refused at record 2, for version 1 of key 0
lost : ℕ → Option Told
lost clause = some (record { at_record = 2; clause = clause; key = 0; version = 1 })

-- "Report of B, whole"
report-of-B : report_text (taken (record {
  verdicts = none ∷ none ∷ none ∷ none ∷ none ∷ lost 5 ∷ lost 5 ∷ none ∷ lost 5 ∷ lost 8 ∷ [];
  records = 2;
  commits = 2;
  image_length = 92;
})) ≡ ascii "records 2 commits 2\nMR accepted\nMW accepted\nRYW accepted\nWFR accepted\nCC accepted\nUA refused record 2 clause 5 key 0 version 1\nPSI refused record 2 clause 5 key 0 version 1\nCP accepted\nSI refused record 2 clause 5 key 0 version 1\nSER refused record 2 clause 8 key 0 version 1\n"
unfolding report_text counts_line verdict_line decimal lost
report-of-B = refl

-- "A refusal prints one line"
refusal-of-1 : report_text (refused (refuse 1 0)) ≡ ascii "refused 1 record 0 key 0 version 0\n"
unfolding report_text refusal_line choose decimal
refusal-of-1 = refl

-- a read of version 1, by this commit
abbrev read-from : CommitNumber → Refusal
read-from t = refuse_read 5 (record { key = 0; sees = record { value = 6; version = 1; writer = t } })

-- "`writer` and that number stand at the end of a code 13 line" (02, E13), "0 for the opening one"
writer-at-the-end : (report_text (refused (read-from 2)) ≡ ascii "refused 13 record 5 key 0 version 1 writer 2\n")
    × (report_text (refused (read-from 0)) ≡ ascii "refused 13 record 5 key 0 version 1 writer 0\n")
unfolding report_text refusal_line choose decimal
writer-at-the-end = (refl, refl)

-- "Other refusals print as before"
others-as-before : (r : Refusal) → r.code ≢ 13
    → refusal_line r ≡ line (word "refused" ∷ number r.code ∷ word "record" ∷ number r.at_record ∷ word "key" ∷ number r.key ∷ word "version" ∷ number r.version ∷ [])
unfolding refusal_line choose
others-as-before r n = rw (ne_eqb r.code 13 n)

-- no shorter limit would do
most : Option Told
most = some (record { at_record = 2 ^ 64 - 1; clause = 2 ^ 64 - 1; key = 2 ^ 64 - 1; version = 2 ^ 64 - 1 })

limit-is-met : length (report_text (taken (record {
  verdicts = most ∷ most ∷ most ∷ most ∷ most ∷ most ∷ most ∷ most ∷ most ∷ most ∷ [];
  records = 2 ^ 64 - 1;
  commits = 2 ^ 64 - 1;
  image_length = 0;
}))) ≡ longest_report
unfolding report_text counts_line verdict_line decimal most
limit-is-met = refl
