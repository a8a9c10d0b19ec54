-- `consistency::plain_file` meets its contract: the words are those of the answer of `plain`. Assumes nothing.
use mathlib.Core.Path.{refl}
use native.Mathlib.Omega.{arith}
use Rattle.rejudging.proofs.Agree.{engines-agree}
use Rattle.words.specs.Layout.{judged_words}
use Rattle.words.proofs.PutWords.{told-words}
use Rattle.consistency.proofs.plain_file.Goals as goal

pub returns-then-room-lt-ANSWER : goal.returns-then-room-lt-ANSWER
returns-then-room-lt-ANSWER c = record { room = λ l. (refl, refl); answer = λ l. absurd (omega arith); agree = engines-agree _ }

pub returns : goal.returns
returns c =
    let judged = c.plain.ensures in
    let put = c.put_answer.ensures in
    let told = told-words judged_words judged.answer c.args.out.now _ _ put.0 put.1 in record { room = λ l. absurd (omega arith); answer = λ l. (told.0, told.1); agree = judged.agree }
