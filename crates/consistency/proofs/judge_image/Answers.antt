-- `consistency::judge_image` meets its contract: the words are those of the answer of `arranging::judge_image`. Assumes nothing.
use mathlib.Core.Path.{refl}
use native.Mathlib.Omega.{arith}
use Rattle.arranging.proofs.Claim.{image-claim}
use Rattle.words.proofs.PutWords.{told-shown}
use Rattle.consistency.proofs.judge_image.Goals as goal

pub returns-then-out-lt-REFUSAL : goal.returns-then-out-lt-REFUSAL
returns-then-out-lt-REFUSAL c = record { room = λ l. (refl, refl, refl); answer = λ l. absurd (omega arith); holds = image-claim _ }

pub returns : goal.returns
returns c =
    let judged = c.judge_image.ensures in
    let put = c.put_shown.ensures in
    let told = told-shown judged.answer c.args.out.now _ _ put.0 put.1 in record { room = λ l. absurd (omega arith); answer = λ l. (told.0, told.1, judged.shown); holds = judged.holds }
