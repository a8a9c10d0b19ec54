-- `pieces::push` meets its contract: `take` says all, and that what the session has is carried on follows from it. Assumes nothing.
use Rattle.pieces.proofs.Taken.{has-pushed}
use Rattle.pieces.proofs.push.Goals as goal

pub returns-clause-has : goal.returns-clause-has
returns-clause-has c =
    let said = c.take-step.ensures in
    has-pushed c.args.session.now c.args.kept.now c.args.piece.now said.0 said.2
