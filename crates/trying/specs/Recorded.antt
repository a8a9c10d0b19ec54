-- The history that the arrays tell: who wrote and who read which version, and the client and session number of each commit. Nothing else in the arrays
-- is looked at. Assumes nothing.
use Rattle.std.specs.Prelude.{ℕ, ◌+◌, ◌*◌, ◌/◌, ◌%◌, ◌^◌, ◌<◌, ◌≡◌, ◌⊎◌, List, T, get_or}
use Rattle.sets.specs.Set.{Set, has, size}
use Rattle.dependencies.specs.History.{History}
use Rattle.store.specs.Store.{Key, VersionNumber, CommitNumber}
use Rattle.state.specs.Places.{head_place, readers_place, full_place, log_place, writer_in}

-- how many versions key k has, by its full mask
abbrev pub versions_of : List ℕ → Key → ℕ
versions_of keys k = size (get_or keys (full_place k) 0)

-- key k is one of the n keys and has a version i
abbrev pub Exists : List ℕ → ℕ → Key → VersionNumber → Type 0
Exists keys n k i = (k < n) × (i < versions_of keys k)

-- the writer of version i of key k, and the set of its readers
abbrev pub writer_at : List ℕ → Key → VersionNumber → CommitNumber
writer_at versions k i = writer_in (get_or versions (head_place k i) 0)

abbrev pub readers_at : List ℕ → Key → VersionNumber → Set
readers_at versions k i = get_or versions (readers_place k i) 0

-- the commit "appears in the store as writer or reader"
abbrev pub StoredIn : List ℕ → List ℕ → ℕ → CommitNumber → Type 0
StoredIn versions keys n t = (k : Key) × (i : VersionNumber) × Exists keys n k i × ((writer_at versions k i ≡ t) ⊎ T (has (readers_at versions k i) t))

-- the masks at `base` hold a version by the commit
abbrev pub HeldIn : List ℕ → List ℕ → List ℕ → ℕ → ℕ → CommitNumber → Type 0
HeldIn versions keys masks base n t = (k : Key) × (i : VersionNumber) × Exists keys n k i × (T (has (get_or masks (base + k) 0) i) × (writer_at versions k i ≡ t))

-- the commit wrote a version of a key that has a write among the ranks
abbrev pub WroteOne : List ℕ → List ℕ → Set → ℕ → CommitNumber → Type 0
WroteOne versions keys ranks n t = (k : Key) × (i : VersionNumber) × Exists keys n k i × (T (has ranks (2 * k + 1)) × (writer_at versions k i ≡ t))

-- client and session number of a commit, from its word in the log
abbrev pub client_in : List ℕ → CommitNumber → ℕ
client_in commits t = get_or commits (log_place t) 0 % 2 ^ 32

abbrev pub session_in : List ℕ → CommitNumber → ℕ
session_in commits t = get_or commits (log_place t) 0 / 2 ^ 32

abbrev pub recorded : List ℕ → List ℕ → List ℕ → ℕ → History
recorded versions keys commits n = record {
  wrote = λ t k i. Exists keys n k i × (writer_at versions k i ≡ t);
  read = λ t k i. Exists keys n k i × T (has (readers_at versions k i) t);
  client_of = client_in commits;
  session_of = session_in commits;
}
