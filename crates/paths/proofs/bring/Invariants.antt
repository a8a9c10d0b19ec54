-- `paths::bring` meets its contract. The loop's invariant: the keys below some k that are read have gained the sets, and those from k on are
-- left. Assumes nothing.
use Prim.Native.Nat.{ℕ, ◌≤◌}
use Rattle.state.specs.Accesses.{Left}
use Rattle.paths.specs.Added.{Joined, LeadsOf}
use Rattle.paths.proofs.bring.Given as goal

abbrev pub invariant-loop-twice : goal.invariant-loop-twice
invariant-loop-twice l = (k : ℕ) × (k ≤ l.n) × Left l.ranks 0 l.n k l.twice-iterator.0 × Joined (LeadsOf l.ranks k l.first l.into) l.initial.links l.links
