-- `commits::engines::judge_by` meets its contract. Assumes nothing.
use Rattle.commits.proofs.engines.judge_by.Goals as goal

pub returns-in-Fast : goal.returns-in-Fast
returns-in-Fast c = λ s u e values fs j asked k. c.judge.ensures s u e values fs j.after-commit asked k

pub returns-in-Plain : goal.returns-in-Plain
returns-in-Plain c = λ s u e values fs j asked k.
    let a = j.after-commit in
    c.judge-in-Plain.ensures s u e values fs a.made a.view-after a.number_is j.clients-fit j.client-below a.arrays a.in-commits a.operations a.masks a.holds a.wants asked k
