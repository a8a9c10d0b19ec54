-- `trying::links::precedes_some` meets its contract. The loop's invariant: SO leads to none of the members passed. Assumes nothing.
use Prim.Native.Nat.{ℕ, ◌≤◌, ◌<◌}
use Rattle.trying.specs.Tries.{Precedes}
use Rattle.trying.proofs.links.precedes_some.Given as goal

abbrev pub invariant-loop-b : goal.invariant-loop-b
invariant-loop-b l = (m : ℕ) → 0 ≤ m → m < l.b → ¬ Precedes l.commits l.stored l.set l.a.0 m
