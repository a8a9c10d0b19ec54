-- `commits::engines::wanted_by` meets its contract. Assumes nothing.
use Rattle.commits.proofs.engines.wanted_by.Goals as goal

pub returns-in-Fast : goal.returns-in-Fast
returns-in-Fast c =
    let w = c.wanted.ensures in
    record {
      set = λ s u e values b.
          (b.holds, w.wants s u e values b.keys-are b.number_is b.sound b.ordered b.in-keys b.in-commits b.in-links b.operations b.holds);
      asked = w.asked;
      kept = w.kept;
    }

pub returns-in-Plain : goal.returns-in-Plain
returns-in-Plain c = record {
  set = λ s u e values b.
      c.wanted-in-Plain.ensures.set s u e values b.keys-are b.sound b.number_is b.clients-fit b.in-versions b.in-keys b.in-commits b.row b.operations;
  asked = c.wanted-in-Plain.ensures.asked c.args.verdicts.now;
  kept = λ s e number f. f;
}
