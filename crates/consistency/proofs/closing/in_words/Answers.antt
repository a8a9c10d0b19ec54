-- `consistency::closing::in_words` meets its contract: the words are those of the answer of the close. Assumes nothing.
use mathlib.Core.Path.{refl}
use native.Mathlib.Omega.{arith}
use Rattle.endian.specs.Endian.{Bytes}
use Rattle.pieces.proofs.Judged.{judges-joined, refusal-keeps-image}
use Rattle.words.specs.Layout.{judged_words}
use Rattle.words.proofs.PutWords.{told-words}
use Rattle.consistency.proofs.closing.in_words.Goals as goal

pub returns-then-out-lt-ANSWER : goal.returns-then-out-lt-ANSWER
returns-then-out-lt-ANSWER c =
    let bytes : Bytes c.args.kept.now = λ i. (c.type_inv.kept i).fits in (
      λ l. (refl, refl, refl, refl),
      λ l. absurd (omega arith),
      judges-joined c.args.was c.args.kept.now c.args.image.now bytes,
      refusal-keeps-image c.args.was c.args.kept.now c.args.image.now,
    )

pub returns : goal.returns
returns c =
    let closed = c.finish-end.ensures in
    let put = c.put_answer-code.ensures in
    let told = told-words judged_words closed.1 c.args.out.now _ _ put.0 put.1 in
    (λ l. absurd (omega arith), λ l. (told.0, told.1, closed.2, closed.0), closed.3, closed.4)
