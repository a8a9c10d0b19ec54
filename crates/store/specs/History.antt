-- A store as a history: who wrote and who read which version. The links of `dependencies` (crates/dependencies/specs/History.antt) are links between
-- the commits of such a history; the tests of Links.antt are proved to say what these say. Assumes nothing.
use Rattle.std.specs.Prelude.{◌<◌, ◌≡◌, ◌⊎◌, T}
use Rattle.sets.specs.Set.{has}
use Rattle.dependencies.specs.History.{History, Held}
use Rattle.store.specs.Store.{Key, VersionNumber, CommitNumber, Client, View, Store, count, version, next_number}

-- commit t wrote, or read, version i of key k
abbrev pub Wrote : Store → CommitNumber → Key → VersionNumber → Type 0
Wrote s t k i = (i < count s k) × ((version s k i).writer ≡ t)

abbrev pub Read : Store → CommitNumber → Key → VersionNumber → Type 0
Read s t k i = (i < count s k) × T (has (version s k i).readers t)

-- the commit t "appears in the store as writer or reader"
abbrev pub Appears : Store → CommitNumber → Type 0
Appears s t = (k : Key) × (i : VersionNumber) × (i < count s k) × (((version s k i).writer ≡ t) ⊎ T (has (version s k i).readers t))

-- t is a commit of client d, with operations or without
abbrev pub InLog : Store → Client → CommitNumber → Type 0
InLog s d t = (0 < t) × (t < next_number s) × (s.client_of t ≡ d)

-- the history of a store
abbrev pub history : Store → History
history s = record { wrote = Wrote s; read = Read s; client_of = s.client_of; session_of = s.session_of }

-- the versions that a view holds, as a fact of each
abbrev pub held : View → Held
held u = λ k i. T (has (u k) i)
