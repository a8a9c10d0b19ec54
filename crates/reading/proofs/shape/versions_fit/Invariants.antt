-- `reading::shape::versions_fit` meets its contract. The loop's invariant: the versions that were passed fit, each by itself; their
-- writers and readers are kept. Assumes nothing.
use Prim.Native.Nat.{◌*◌, ◌≤◌}
use Rattle.reading.proofs.Versions.{Passed}
use Rattle.reading.proofs.shape.versions_fit.Given as goal

abbrev pub invariant-loop-i : goal.invariant-loop-i
invariant-loop-i l = (l.count ≤ 64 * l.i) × Passed l.image l.base l.commits l.i l.writers l.readers l.count
