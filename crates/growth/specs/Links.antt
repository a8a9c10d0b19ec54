-- What leads into a commit that is made on view u of a store, and out of it. Assumes nothing.
use Rattle.std.specs.Prelude.{◌<◌, ◌≡◌, T}
use Rattle.store.specs.Store.{Key, VersionNumber, CommitNumber, View, Store, Commit}
use Rattle.store.specs.Update.{reads, writes, newest_visible}
use Rattle.store.specs.History.{Wrote, history}
use Rattle.growth.specs.Made.{Operates, WriterOf, ReaderOf, CommitBy}

-- SO: a is an earlier commit of its client
abbrev pub FromSession : Store → Commit → CommitNumber → Type 0
FromSession s c a = Operates c × CommitBy (history s) c.client a

-- WR: a wrote a version that it reads
abbrev pub FromRead : Store → View → Commit → CommitNumber → Type 0
FromRead s u c a = (k : Key) × T (reads c k) × ((newest_visible s u k).writer ≡ a)

-- WW: a wrote a version of a key that it writes
abbrev pub FromWrite : Store → Commit → CommitNumber → Type 0
FromWrite s c a = (k : Key) × T (writes c k) × WriterOf (history s) k a

-- RW: a read a version of a key that it writes
abbrev pub FromReader : Store → Commit → CommitNumber → Type 0
FromReader s c a = (k : Key) × T (writes c k) × ReaderOf (history s) k a

-- RW: b wrote a later version of a key than the one that it reads
abbrev pub ToLater : Store → View → Commit → CommitNumber → Type 0
ToLater s u c b = (k : Key) × T (reads c k) × ((j : VersionNumber) × ((newest_visible s u k).version < j) × Wrote s b k j)
