-- A commit that can be made on a view of a store, and sets of commits that contracts speak of. Assumes nothing.
use Rattle.std.specs.Prelude.{◌<◌, ◌≡◌, ◌⊎◌, T}
use Rattle.dependencies.specs.History.{History, Stored}
use Rattle.store.specs.Store.{Key, VersionNumber, CommitNumber, Client, View, Store, Commit}
use Rattle.store.specs.Update.{reads, writes}
use Rattle.store.specs.History.{InLog}
use Rattle.store.specs.View.{IsView}
use Rattle.store.specs.Sound.{SoundStore, WithinKeys}

-- commit c can be made on view u of store s
pub record Made (s : Store) (u : View) (c : Commit) : Type 0 where
  pub sound : SoundStore s
  pub view : IsView s u
  pub fits : WithinKeys s.keys c
  -- its session number is above "every earlier number of that client in the trace, operations or none" (02, E7)
  pub newer : (t : CommitNumber) → InLog s c.client t → s.session_of t < c.session

-- the commit has an operation; it has a write
abbrev pub Operates : Commit → Type 0
Operates c = (k : Key) × (T (reads c k) ⊎ T (writes c k))

abbrev pub Writes : Commit → Type 0
Writes c = (k : Key) × T (writes c k)

-- t wrote a version of key k, or read one
abbrev pub WriterOf : History → Key → CommitNumber → Type 0
WriterOf H k t = (i : VersionNumber) × H.wrote t k i

abbrev pub ReaderOf : History → Key → CommitNumber → Type 0
ReaderOf H k t = (i : VersionNumber) × H.read t k i

-- t wrote a version of some key
abbrev pub Writer : History → CommitNumber → Type 0
Writer H t = (k : Key) × WriterOf H k t

-- t is a commit of client d in the store
abbrev pub CommitBy : History → Client → CommitNumber → Type 0
CommitBy H d t = Stored H t × (0 < t) × (H.client_of t ≡ d)
