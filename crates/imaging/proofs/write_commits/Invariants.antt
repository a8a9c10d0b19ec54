-- `imaging::write_commits` meets its contract. The loop's invariant: the commits passed stand behind the first 8 bytes, and the next one's offset is their end.
-- Assumes nothing.
use Prim.Native.Nat.{suc, ◌+◌, ◌*◌}
use mathlib.Core.Path.{◌≡◌}
use Rattle.endian.specs.Endian.{put_at, pieces}
use Rattle.store.specs.Store.{Store}
use Rattle.store.specs.Image.{commit_bytes, ClientsFit}
use Rattle.store.specs.Reading.{commit_size}
use Rattle.state.specs.Keeps.{KeepsCommits, KeepsStored}
use Rattle.imaging.proofs.write_commits.Given as goal

abbrev pub invariant-loop-i : goal.invariant-loop-i
invariant-loop-i l =
    (l.at ≡ 8 + commit_size l.n * l.i)
    × ((s : Store) → KeepsCommits s l.commits → KeepsStored s l.views → ClientsFit s → s.keys ≡ l.n → s.commits ≡ l.count
    → l.buffer ≡ put_at l.initial.buffer 8 (pieces l.i (λ j. commit_bytes s (suc j))))
