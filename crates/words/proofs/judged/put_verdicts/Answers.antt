-- `words::judged::put_verdicts` meets its contract. Assumes nothing.
use Rattle.verdicts.specs.Told.{verdict_of}
use Rattle.words.proofs.PutWords.{ten-put}
use Rattle.words.proofs.judged.put_verdicts.Goals as goal

pub returns : goal.returns
returns c =
    let v = c.args.v in
    ten-put c.args.out.now (verdict_of v.mr) (verdict_of v.mw) (verdict_of v.ryw) (verdict_of v.wfr) (verdict_of v.cc) (verdict_of v.ua) (verdict_of v.psi) (verdict_of v.cp) (verdict_of v.si) (verdict_of v.ser)
    c.requires c.put_five.ensures c.put_five-2.ensures
