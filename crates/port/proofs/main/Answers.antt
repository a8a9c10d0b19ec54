-- An open session stays open while pieces come, and each that has a byte leaves fewer to come: what came is counted, up to one more than a file may have.
use Rattle.std.proofs.Common.{ap, ◌∙◌, arith}
use lib.ListN.{length-take}
use Rattle.pieces.specs.declared.Session.{Session}
use Rattle.pieces.proofs.Taken.{counted-open}
use Rattle.port.proofs.main.Goals as goal

pub loop-session-smaller : goal.loop-session-smaller
loop-session-smaller c =
    let total = ap (λ (s : Session). s.total) c.take-step.ensures.0 ∙ (counted-open _ _ c.loop-session.invariant).1 in
    omega (arith, simp length-take at total, c.if-n-eq0.false, c.loop-session-test.true, c.in-Ok.ensures)

pub loop-session-preserved : goal.loop-session-preserved
loop-session-preserved c = ap (λ (s : Session). s.closed) c.take-step.ensures.0 ∙ (counted-open _ _ c.loop-session.invariant).0
