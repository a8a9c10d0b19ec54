-- `verdicts::sources::written` meets its contract. The loop's invariant: the writers of the keys below some k that are written are gathered,
-- and the keys from k on that are written are left. Assumes nothing.
use Prim.Native.Nat.{ℕ, ◌≤◌}
use Rattle.state.specs.Accesses.{Left}
use Rattle.state.specs.Keeps.{IsSet}
use Rattle.verdicts.specs.Sources.{InKeys}
use Rattle.verdicts.proofs.sources.written.Given as goal

abbrev pub invariant-loop-twice : goal.invariant-loop-twice
invariant-loop-twice l = (k : ℕ) × (k ≤ l.n) × Left l.ranks 1 l.n k l.twice-iterator.0 × IsSet l.all (InKeys l.keys l.ranks k)
