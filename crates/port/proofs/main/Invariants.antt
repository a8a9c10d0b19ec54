-- Why `port::main` ends: each piece counts at least one byte.
use Rattle.std.proofs.Common.{◌≡◌, ◌-◌}
use Rattle.pieces.specs.Piece.{too_many}
use Rattle.port.proofs.main.Given as goal

abbrev pub invariant-loop-session : goal.invariant-loop-session
invariant-loop-session l = l.session.closed ≡ 0

abbrev pub decreases-loop-session : goal.decreases-loop-session
decreases-loop-session l = too_many - l.session.total
