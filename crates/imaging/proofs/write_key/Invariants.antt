-- `imaging::write_key` meets its contract. The loop's invariant: the versions passed stand behind the key's first 4 bytes. Assumes nothing.
use Prim.Native.Nat.{◌≤◌}
use mathlib.Core.Path.{◌≡◌}
use Rattle.endian.specs.Endian.{put_at, pieces}
use Rattle.store.specs.Limits.{max_commits}
use Rattle.store.specs.Store.{Store, count, version}
use Rattle.store.specs.Image.{version_bytes}
use Rattle.store.specs.Sound.{SoundStore}
use Rattle.state.specs.Keeps.{KeepsVersions}
use Rattle.imaging.proofs.write_key.Given as goal

abbrev pub invariant-loop-i : goal.invariant-loop-i
invariant-loop-i l =
    (s : Store) → KeepsVersions s l.versions → SoundStore s → s.commits ≤ max_commits → count s l.k.0 ≡ l.n → l.part ≡ put_at l.initial.part 4 (pieces l.i (λ j. version_bytes (version s l.k.0 j)))
