-- `consistency::visibility_file` meets its contract: the words are those of the answer of `report`, and what is shown holds of any bytes. Assumes nothing.
use mathlib.Core.Path.{refl}
use native.Mathlib.Omega.{arith}
use Rattle.visible.proofs.Claim.{visibility}
use Rattle.words.specs.Layout.{judged_words}
use Rattle.words.proofs.PutWords.{told-words}
use Rattle.consistency.proofs.visibility_file.Goals as goal

pub returns-then-out-lt-ANSWER : goal.returns-then-out-lt-ANSWER
returns-then-out-lt-ANSWER c = record { room = λ l. (refl, refl, refl, refl); answer = λ l. absurd (omega arith); holds = visibility _ (λ i. (c.type_inv.file i).fits) }

pub returns : goal.returns
returns c =
    let reported = c.report.ensures in
    let put = c.put_answer.ensures in
    let told = told-words judged_words reported.answer c.args.out.now _ _ put.0 put.1 in record { room = λ l. absurd (omega arith); answer = λ l. (told.0, told.1, reported.image, reported.rows); holds = reported.holds }
