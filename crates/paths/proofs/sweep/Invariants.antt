-- `paths::sweep` meets its contract. The loop's invariant: the rows below t are gathered. Assumes nothing.
use Rattle.sets.specs.Set.{below}
use Rattle.store.specs.Limits.{numbers}
use Rattle.state.specs.Keeps.{IsSet}
use Rattle.state.specs.Rows.{InRows}
use Rattle.paths.proofs.sweep.Given as goal

abbrev pub invariant-loop-t : goal.invariant-loop-t
invariant-loop-t l = IsSet l.prefix (InRows l.links 0 (below l.t)) × IsSet l.snapshot (InRows l.links numbers (below l.t))
