-- `verdicts::told::verdicts_from` meets its contract. Assumes nothing.
use native.Mathlib.Omega.{arith}
use Rattle.levels.specs.Level.{MR, MW, RYW, WFR, CC, UA, PSI, CP, SI, SER}
use Rattle.verdicts.proofs.Words.{ten-same}
use Rattle.verdicts.proofs.told.verdicts_from.Goals as goal

pub returns : goal.returns
returns c =
    λ fs k.
    ten-same
    (c.verdict_at.ensures (fs MR) (k.verdict 0 (omega arith)))
    (c.verdict_at-2.ensures (fs MW) (k.verdict 1 (omega arith)))
    (c.verdict_at-3.ensures (fs RYW) (k.verdict 2 (omega arith)))
    (c.verdict_at-4.ensures (fs WFR) (k.verdict 3 (omega arith)))
    (c.verdict_at-5.ensures (fs CC) (k.verdict 4 (omega arith)))
    (c.verdict_at-6.ensures (fs UA) (k.verdict 5 (omega arith)))
    (c.verdict_at-7.ensures (fs PSI) (k.verdict 6 (omega arith)))
    (c.verdict_at-8.ensures (fs CP) (k.verdict 7 (omega arith)))
    (c.verdict_at-9.ensures (fs SI) (k.verdict 8 (omega arith)))
    (c.verdict_at-10.ensures (fs SER) (k.verdict 9 (omega arith)))
