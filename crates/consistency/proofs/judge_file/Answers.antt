-- `consistency::judge_file` meets its contract: the words are those of the answer of `judge`, and demand 3 holds of any bytes. Assumes nothing.
use mathlib.Core.Path.{refl}
use native.Mathlib.Omega.{arith}
use Rattle.endian.specs.Endian.{Bytes}
use Rattle.answer.proofs.Demand3.{demand3}
use Rattle.answer.proofs.Recorded.{image-says}
use Rattle.judging.proofs.Longest.{image-fits}
use Rattle.words.specs.Layout.{judged_words}
use Rattle.words.proofs.PutWords.{told-words}
use Rattle.consistency.proofs.judge_file.Goals as goal
use Rattle.consistency.proofs.judge_file.Goals.{Then-out-lt-ANSWER}

-- the bytes of the file are bytes
bytes : (c : goal.Then-out-lt-ANSWER) → Bytes c.args.file.now
bytes c i = (c.type_inv.file i).fits

pub returns-then-out-lt-ANSWER : goal.returns-then-out-lt-ANSWER
returns-then-out-lt-ANSWER c = record { room = λ l. (refl, refl, refl); answer = λ l. absurd (omega arith); longest = image-fits _ (bytes c); demand3 = demand3 _ (bytes c); says = image-says _ (bytes c) }

pub returns : goal.returns
returns c =
    let judged = c.judge.ensures in
    let put = c.put_answer.ensures in
    let told = told-words judged_words judged.answer c.args.out.now _ _ put.0 put.1 in
    record {
      room = λ l. absurd (omega arith);
      answer = λ l. (told.0, told.1, judged.image);
      longest = judged.longest;
      demand3 = judged.demand3;
      says = judged.says;
    }
