-- `paths::note` meets its contract. Assumes nothing.
use native.Mathlib.Omega.{arith}
use Rattle.paths.proofs.Noted.{follows-noted}
use Rattle.paths.proofs.note.Goals as goal

pub returns : goal.returns
returns c =
    let p = c.requires in
    follows-noted _ p.0 _ _ _ _ _ _ p.1 (omega arith) (omega arith) (omega arith) (omega arith) (omega arith) _ _ _ _ _
