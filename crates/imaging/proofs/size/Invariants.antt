-- `imaging::size` meets its contract. The loop's invariant: the sum is the size of the first 8 bytes, the commits and the keys passed. Assumes nothing.
use Prim.Native.Nat.{◌+◌, ◌*◌, ◌≤◌}
use mathlib.Core.Path.{◌≡◌}
use Rattle.store.specs.Limits.{max_keys, max_commits, per_key}
use Rattle.store.specs.Reading.{commit_size}
use Rattle.imaging.specs.Parts.{keys_size}
use Rattle.imaging.proofs.size.Given as goal

abbrev pub invariant-loop-full : goal.invariant-loop-full
invariant-loop-full l = (l.sum ≡ 8 + commit_size l.n * l.count + keys_size l.keys l.full-index) × (l.sum ≤ 8 + commit_size max_keys * max_commits + (4 + 16 * per_key) * l.full-index)
