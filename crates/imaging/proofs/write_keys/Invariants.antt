-- `imaging::write_keys` meets its contract. The loop's invariant: the keys passed stand from `start` on, and the next one's offset is their end. Assumes nothing.
use Prim.Native.Nat.{◌+◌, ◌≤◌}
use mathlib.Core.Path.{◌≡◌}
use Rattle.endian.specs.Endian.{put_at, pieces}
use Rattle.store.specs.Limits.{max_commits}
use Rattle.store.specs.Store.{Store}
use Rattle.store.specs.Image.{key_bytes}
use Rattle.store.specs.Sound.{SoundStore}
use Rattle.state.specs.Keeps.{KeepsVersions, KeepsKeys}
use Rattle.imaging.specs.Parts.{keys_size}
use Rattle.imaging.proofs.write_keys.Given as goal

abbrev pub invariant-loop-k : goal.invariant-loop-k
invariant-loop-k l =
    (l.at ≡ l.start + keys_size l.keys l.k)
    × ((s : Store) → KeepsVersions s l.versions → KeepsKeys s l.keys → SoundStore s → s.commits ≤ max_commits → s.keys ≡ l.n
    → l.buffer ≡ put_at l.initial.buffer l.start (pieces l.k (key_bytes s)))
