-- What the arrays of the judge say of a configuration. Sets of commits are words: number t is in the set where bit t is set; the
-- opening transaction is number 0 and is in the sets like any other. Assumes nothing.
use Rattle.std.specs.Prelude.{ℕ, zero, suc, ◌+◌, ◌*◌, ◌^◌, ◌≤◌, ◌<◌, ◌≡◌, ◌⊎◌, ◌↔◌, List, T, get_or}
use Rattle.search.specs.Choose.{when}
use Rattle.sets.specs.Set.{Set, has, below}
use Rattle.dependencies.specs.History.{Stored, Holds, PrefixStep, SnapshotStep}
use Rattle.dependencies.specs.History as D
use Rattle.store.specs.Limits.{max_keys, max_clients}
use Rattle.store.specs.Store.{Key, CommitNumber, Client, SessionNumber, View, Store, Configuration, count, version, next_number, read, write, Commit}
use Rattle.store.specs.Update.{value_of, update}
use Rattle.store.specs.History.{Wrote, Read, InLog, history, held}
use Rattle.growth.specs.Made.{Made}
use Rattle.growth.specs.Links.{FromSession, FromRead, FromWrite, ToLater}
use Rattle.growth.specs.Sessions.{ReadUpTo}
use Rattle.state.specs.Places.{numbers, head_place, readers_place, owned_place, full_place, writers_place, view_place, stored_row, commits_place, drawn_place, bar_place, log_place, before_place, read_place, link_place, lead_place, note_place, entered_place, packed}
use Rattle.state.specs.Room.{VersionsRoom, KeysRoom, ViewsRoom, SeenRoom, SessionsRoom, CommitsRoom, LinksRoom, FreshRoom, ValuesRoom}

-- a word is the set of the numbers with P
abbrev pub IsSet : Set → (ℕ → Type 0) → Type 0
IsSet m P = (t : ℕ) → T (has m t) ↔ P t

-- ---- versions and keys

pub record KeepsVersions (s : Store) (versions : List ℕ) : Type 0 where
  pub room : VersionsRoom versions
  pub heads : (k i : ℕ) → i < count s k → get_or versions (head_place k i) 0 ≡ packed (version s k i).value (version s k i).writer
  pub readers : (k i : ℕ) → i < count s k → get_or versions (readers_place k i) 0 ≡ (version s k i).readers
  pub value-fits : (k i : ℕ) → i < count s k → (version s k i).value < 2 ^ 32
  -- the versions that a commit wrote; the opening transaction has no row
  pub owned : (t : CommitNumber) → 0 < t → t < numbers → (k : Key) → k < s.keys → IsSet (get_or versions (owned_place t k) 0) (Wrote s t k)

-- a commit that wrote a version of the key; one that read a version of it
abbrev pub WroteKey : Store → Key → CommitNumber → Type 0
WroteKey s k t = (i : ℕ) × Wrote s t k i

abbrev pub ReadKey : Store → Key → CommitNumber → Type 0
ReadKey s k t = (i : ℕ) × Read s t k i

pub record KeepsKeys (s : Store) (keys : List ℕ) : Type 0 where
  pub room : KeysRoom keys
  pub full : (k : Key) → k < s.keys → get_or keys (full_place k) 0 ≡ below (count s k)
  pub writers : (k : Key) → k < s.keys → IsSet (get_or keys (writers_place k) 0) (WroteKey s k)

-- ---- views

-- the view in a row
abbrev pub RowIs : ℕ → List ℕ → ℕ → View → Type 0
RowIs keys views row u = (k : Key) → k < keys → get_or views (view_place row k) 0 ≡ u k

-- of each commit "the view u that it was judged from" (02, E8)
abbrev pub KeepsStored : Store → List ℕ → Type 0
KeepsStored s views = (t : CommitNumber) → 0 < t → t ≤ s.commits → RowIs s.keys views (stored_row t) (s.view_of t)

pub record KeepsViews (g : Configuration) (views seen : List ℕ) : Type 0 where
  pub room : ViewsRoom views
  pub rows : (d : Client) → d < max_clients → RowIs g.store.keys views d (g.views d)
  pub stored : KeepsStored g.store views
  -- the commits of which the client's view holds a version
  pub seen-room : SeenRoom seen
  pub holds : (d : Client) → d < max_clients → IsSet (get_or seen d 0) (Holds (history g.store) (held (g.views d)))

-- ---- sessions and commits

-- a commit of the client in the store
abbrev pub CommitOf : Store → Client → CommitNumber → Type 0
CommitOf s d t = Stored (history s) t × (0 < t) × (s.client_of t ≡ d)

pub record KeepsSessions (s : Store) (sessions : List ℕ) : Type 0 where
  pub room : SessionsRoom sessions
  pub commits-of : (d : Client) → d < max_clients → IsSet (get_or sessions (commits_place d) 0) (CommitOf s d)
  pub drawn : (d : Client) → d < max_clients → IsSet (get_or sessions (drawn_place d) 0) (λ w. (t : ℕ) × CommitOf s d t × D.WR (history s) w t)
  -- a session number is below the bar exactly where it is not above every number of the client, of commits with operations and without
  pub bar : (d : Client) → d < max_clients → (x : SessionNumber) → (x < get_or sessions (bar_place d) 0) ↔ ((t : ℕ) × InLog s d t × (x ≤ s.session_of t))

pub record KeepsCommits (s : Store) (commits : List ℕ) : Type 0 where
  pub room : CommitsRoom commits
  pub log : (t : CommitNumber) → 0 < t → t ≤ s.commits → get_or commits (log_place t) 0 ≡ packed (s.client_of t) (s.session_of t)
  pub before : (t : CommitNumber) → t < numbers → IsSet (get_or commits (before_place t) 0) (λ a. D.SO (history s) a t)
  -- the writers of what the commit read, or a commit before it in SO read
  pub read : (t : CommitNumber) → t < numbers → IsSet (get_or commits (read_place t) 0) (λ w. ReadUpTo (history s) w t)

-- ---- the operations of a commit

-- by rank: twice the key for a read, one more for a write
pub record KeepsOperations (c : Commit) (ranks : Set) (values : List ℕ) : Type 0 where
  pub room : ValuesRoom values
  pub reads : (k : Key) → value_of read c.operations k ≡ when (has ranks (2 * k)) (get_or values (2 * k) 0)
  pub writes : (k : Key) → value_of write c.operations k ≡ when (has ranks (2 * k + 1)) (get_or values (2 * k + 1) 0)
  pub value-fits : (r : ℕ) → get_or values r 0 < 2 ^ 32

-- ---- links, for clauses 6 and 7

-- the link that starts a step, before an RW link: SO or WR for clause 6, SO, WR or WW for clause 7
abbrev pub FirstLink : ℕ → Store → CommitNumber → CommitNumber → Type 0
FirstLink zero s a b = D.SO (history s) a b ⊎ D.WR (history s) a b
FirstLink (suc n) s a b = D.PlainLink (history s) a b

abbrev pub Step : ℕ → Store → CommitNumber → CommitNumber → Type 0
Step zero s = PrefixStep (history s)
Step (suc n) s = SnapshotStep (history s)

pub record KeepsLinks (s : Store) (links : List ℕ) : Type 0 where
  pub room : LinksRoom links
  pub steps : (kind : ℕ) → kind < 2 → (t : CommitNumber) → t < numbers → IsSet (get_or links (link_place kind t) 0) (λ a. Step kind s a t)
  pub leads : (kind : ℕ) → kind < 2 → (k : Key) → k < s.keys
      → IsSet (get_or links (lead_place kind k) 0) (λ a. (r : ℕ) × ReadKey s k r × FirstLink kind s a r)

-- the links of commit c, made on view u of store s, are noted in its row: from where SO, WR and WW lead to it, to where RW leads from it, and the ranks of its
-- operations
pub record Noted (s : Store) (u : View) (c : Commit) (links : List ℕ) : Type 0 where
  pub made : Made s u c
  pub from-session : IsSet (get_or links (note_place 0 (next_number s)) 0) (FromSession s c)
  pub from-reads : IsSet (get_or links (note_place 1 (next_number s)) 0) (FromRead s u c)
  pub from-writes : IsSet (get_or links (note_place 2 (next_number s)) 0) (FromWrite s c)
  pub to-later : IsSet (get_or links (note_place 3 (next_number s)) 0) (ToLater s u c)
  pub values : List ℕ
  pub operations : KeepsOperations c (get_or links (note_place 4 (next_number s)) 0) values

-- m commits lead from store a to store b, and each is noted
unfoldable pub NotedSince : ℕ → List ℕ → Store → Store → Type 0
NotedSince zero links a b = a ≡ b
NotedSince (suc m) links a b = (u : View) × (c : Commit) × Noted a u c links × NotedSince m links (update a u c) b

-- the links are entered of the store that the last of these commits left, and noted of the commits since
pub record EnteredTo (last : CommitNumber) (s : Store) (links : List ℕ) : Type 0 where
  pub earlier : Store
  pub number_is : earlier.commits ≡ last
  pub few : earlier.keys ≤ max_keys
  pub kept : KeepsLinks earlier links
  pub since : ℕ
  pub noted : NotedSince since links earlier s

abbrev pub FollowsLinks : Store → List ℕ → Type 0
FollowsLinks s links = EnteredTo (get_or links entered_place 0) s links

-- ---- the masks of a record

pub record KeepsMasks (keys : ℕ) (u : View) (fresh : List ℕ) : Type 0 where
  pub room : FreshRoom fresh
  pub masks : (k : Key) → k < keys → get_or fresh k 0 ≡ u k

-- ---- all of them

pub record Keeps (g : Configuration) (versions keys views seen sessions commits links : List ℕ) : Type 0 where
  pub in-versions : KeepsVersions g.store versions
  pub in-keys : KeepsKeys g.store keys
  pub in-views : KeepsViews g views seen
  pub in-sessions : KeepsSessions g.store sessions
  pub in-commits : KeepsCommits g.store commits
  pub in-links : FollowsLinks g.store links
