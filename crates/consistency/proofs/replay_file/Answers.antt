-- `consistency::replay_file` meets its contract: the words are those of the answer of `replaying::write`. Assumes nothing.
use mathlib.Core.Path.{refl}
use mathlib.Core.List.{[], ◌∷◌}
use native.Mathlib.Omega.{arith}
use Rattle.endian.specs.Endian.{Bytes}
use Rattle.answer.proofs.Written.{replay-fits}
use Rattle.words.proofs.PutWords.{told-words}
use Rattle.consistency.proofs.replay_file.Goals as goal
use Rattle.consistency.proofs.replay_file.Goals.{Then-out-lt-REFUSAL}

-- the bytes of the file are bytes
bytes : (c : goal.Then-out-lt-REFUSAL) → Bytes c.args.file.now
bytes c i = (c.type_inv.file i).fits

pub returns-then-out-lt-REFUSAL : goal.returns-then-out-lt-REFUSAL
returns-then-out-lt-REFUSAL c = record { room = λ l. (refl, refl, refl); answer = λ l. absurd (omega arith); longest = replay-fits _ (bytes c) }

pub returns : goal.returns
returns c =
    let wrote = c.write.ensures in
    let put = c.put_replay.ensures in
    let told = told-words (λ n. n ∷ []) wrote.answer c.args.out.now _ _ put.0 put.1 in record { room = λ l. absurd (omega arith); answer = λ l. (told.0, told.1, wrote.written, wrote.back); longest = wrote.longest }
