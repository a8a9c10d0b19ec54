-- `consistency::convert_file` meets its contract: the words are those of the answer of `converting::convert`. Assumes nothing.
use mathlib.Core.Path.{refl}
use mathlib.Core.List.{[], ◌∷◌}
use native.Mathlib.Omega.{arith}
use Rattle.words.proofs.PutWords.{told-words}
use Rattle.consistency.proofs.convert_file.Goals as goal

pub returns-then-room-lt-REFUSAL : goal.returns-then-room-lt-REFUSAL
returns-then-room-lt-REFUSAL c = record { room = λ l. (refl, refl, refl); answer = λ l. absurd (omega arith) }

pub returns : goal.returns
returns c =
    let wrote = c.convert.ensures in
    let put = c.put_replay.ensures in
    let told = told-words (λ n. n ∷ []) wrote.answer c.args.out.now _ _ put.0 put.1 in record { room = λ l. absurd (omega arith); answer = λ l. (told.0, told.1, wrote.written, wrote.same) }
