-- `words::judged::put_five` meets its contract. Assumes nothing.
use Rattle.verdicts.specs.Told.{verdict_of}
use Rattle.words.proofs.PutWords.{five-put}
use Rattle.words.proofs.judged.put_five.Goals as goal

pub returns : goal.returns
returns c =
    let a = c.args in
    five-put a.out.now a.at (verdict_of a.a) (verdict_of a.b) (verdict_of a.c) (verdict_of a.d) (verdict_of a.e) c.requires
    c.put_verdict.ensures c.put_verdict-2.ensures c.put_verdict-3.ensures c.put_verdict-4.ensures c.put_verdict-5.ensures
