-- `paths::brought` meets its contract. The loop's invariant: what the keys below some k bring along is gathered, and the keys from k on that
-- are written are left. Assumes nothing.
use Prim.Native.Nat.{ℕ, ◌≤◌}
use Rattle.state.specs.Accesses.{Left}
use Rattle.state.specs.Keeps.{IsSet}
use Rattle.paths.specs.Added.{BroughtBelow}
use Rattle.paths.proofs.brought.Given as goal

abbrev pub invariant-loop-twice : goal.invariant-loop-twice
invariant-loop-twice l =
    (k : ℕ) × (k ≤ l.n) × Left l.ranks 1 l.n k l.twice-iterator.0 × IsSet l.prefix (BroughtBelow 0 l.links l.ranks k) × IsSet l.snapshot (BroughtBelow 1 l.links l.ranks k)
