-- "Store and views" (01; 000 calls the pair of store and views a configuration): what there is. Assumes nothing.
use Rattle.std.specs.Prelude.{ℕ, suc, List, [], ◌∷◌, ltb, length, get_or}
use Rattle.search.specs.Choose.{choose}
use Rattle.sets.specs.Set.{Set}

-- Key, version, commit, client and session numbers are all small counts; each place of a definition says which it takes.
abbrev pub Key : Type 0
Key = ℕ

abbrev pub VersionNumber : Type 0
VersionNumber = ℕ

abbrev pub CommitNumber : Type 0
CommitNumber = ℕ

abbrev pub Client : Type 0
Client = ℕ

abbrev pub SessionNumber : Type 0
SessionNumber = ℕ

abbrev pub Value : Type 0
Value = ℕ

-- "versions (value, writer, readers)"; the readers are a set of commit numbers
pub record Version : Type 0 where
  pub value : Value
  pub writer : CommitNumber
  pub readers : Set

-- "version 0: value 0, writer the opening transaction (number 0), no readers"
abbrev pub opening_version : Version
opening_version = record { value = 0; writer = 0; readers = 0 }

-- the versions that a client sees, by key
abbrev pub View : Type 0
View = Key → Set

-- "The store maps a key to a list of versions"; with the client and session number of each commit, and "the view u that it was judged from" (02, E8), by
-- its number
pub record Store : Type 0 where
  pub keys : ℕ
  pub versions : Key → List Version
  pub client_of : CommitNumber → Client
  pub session_of : CommitNumber → SessionNumber
  pub view_of : CommitNumber → View
  pub commits : ℕ

-- no version of any key
abbrev pub no_view : View
no_view k = 0

-- the store, and the present view of each client
pub record Configuration : Type 0 where
  pub store : Store
  pub views : Client → View

-- "At the start each list is version 0"
unfoldable pub opening_store : ℕ → Store
opening_store keys = record {
  keys = keys;
  versions = λ k. choose (ltb k keys) (opening_version ∷ []) [];
  client_of = λ t. 0;
  session_of = λ t. 0;
  view_of = λ t. no_view;
  commits = 0;
}

-- "each client's view is {0} at each key"
abbrev pub opening_view : ℕ → View
opening_view keys k = choose (ltb k keys) 1 0

unfoldable pub opening : ℕ → Configuration
opening keys = record { store = opening_store keys; views = λ d. opening_view keys }

-- how many versions a key has; version i of a key
abbrev pub count : Store → Key → ℕ
count s k = length (s.versions k)

abbrev pub version : Store → Key → VersionNumber → Version
version s k i = get_or (s.versions k) i opening_version

-- "Commit number c is 1 for the first commit, empty ones included": the number of the next one
abbrev pub next_number : Store → CommitNumber
next_number s = suc s.commits

-- ---- what a trace does to a store

pub data Access : Type 0 where
  read write : Access

pub record Operation : Type 0 where
  pub access : Access
  pub key : Key
  pub value : Value

pub record Commit : Type 0 where
  pub client : Client
  pub session : SessionNumber
  pub operations : List Operation
  pub view_after : View

-- a record of a trace: a shift of a client's view, or a commit
pub data Event : Type 0 where
  shift : Client → View → Event
  commit : Commit → Event
