-- `words::put_answer` meets its contract. Assumes nothing.
use mathlib.Core.Path.{refl, sym, ap}
use Rattle.judging.specs.Answers.{answer_of}
use Rattle.words.specs.Layout.{judged_words}
use Rattle.words.proofs.PutWords.{judged-put, told-words}
use Rattle.words.proofs.put_answer.Goals as goal

pub returns-in-Ok : goal.returns-in-Ok
returns-in-Ok c =
    told-words judged_words (sym (ap answer_of c.in-Ok.is)) c.args.out.now _ _ refl
    (judged-put _ _ _ _ _ _ c.requires c.put_four.ensures c.put_verdicts.ensures)

pub returns-in-Err : goal.returns-in-Err
returns-in-Err c =
    let put = c.put_refusal.ensures in
    told-words judged_words (sym (ap answer_of c.in-Err.is)) c.args.out.now _ _ put.0 put.1
