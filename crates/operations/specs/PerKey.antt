-- The links into and out of a commit, key by key: together those of crates/growth/proofs/Links.antt. Assumes nothing.
use Rattle.std.specs.Prelude.{◌≡◌, ◌<◌, T}
use Rattle.store.specs.Store.{Key, VersionNumber, CommitNumber, View, Store, Commit}
use Rattle.store.specs.Update.{reads, writes, newest_visible}
use Rattle.store.specs.History.{Wrote}
use Rattle.state.specs.Keeps.{WroteKey}

-- a wrote the version of key k that is read
abbrev pub ReadAt : Store → View → Commit → Key → CommitNumber → Type 0
ReadAt s u c k a = T (reads c k) × ((newest_visible s u k).writer ≡ a)

-- b wrote a later version of key k than the one that is read
abbrev pub LaterAt : Store → View → Commit → Key → CommitNumber → Type 0
LaterAt s u c k b = T (reads c k) × ((j : VersionNumber) × ((newest_visible s u k).version < j) × Wrote s b k j)

-- a wrote a version of key k, which is written
abbrev pub WrittenAt : Store → Commit → Key → CommitNumber → Type 0
WrittenAt s c k a = T (writes c k) × WroteKey s k a
