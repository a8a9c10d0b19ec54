-- What each part of an image adds to the links, by the places of its bytes. The contracts of the code that fills the rows cite these. Assumes nothing.
use Rattle.std.specs.Prelude.{ℕ, ◌+◌, ◌<◌, ◌≡◌, ◌⊎◌, ◌↔◌, ◌≢◌, List, T, length}
use Rattle.sets.specs.Set.{Set, has}
use Rattle.endian.specs.Endian.{le_at}
use Rattle.store.specs.Limits.{numbers}
use Rattle.store.specs.Store.{Key, CommitNumber, Client, SessionNumber, VersionNumber}
use Rattle.ordering.specs.Links.{IsCommit}
use Rattle.ordering.specs.Rows.{links_in}
use Rattle.store.specs.Reading.{key_place}
use Rattle.reading.specs.Parts.{entry_place, client_at, session_at, writer_at, readers_at}

-- the rows say what they said, and the links of P besides
pub record Gains (rows more : List Set) (P : CommitNumber → CommitNumber → Type 0) : Type 0 where
  pub room : length more ≡ numbers
  pub says : (a c : CommitNumber) → T (links_in more a c) ↔ (T (links_in rows a c) ⊎ P a c)

-- the entry at a place is of the client and has a smaller number
abbrev pub Precedes : List ℕ → ℕ → Client → SessionNumber → Type 0
Precedes b place client session = (le_at b place 1 ≡ client) × (le_at b (place + 4) 4 < session)

-- entry a is of the same client as entry t and has a smaller number
abbrev pub InSession : List ℕ → ℕ → ℕ → CommitNumber → CommitNumber → Type 0
InSession b step count a t = IsCommit count a × Precedes b (entry_place step a) (client_at b step t) (session_at b step t)

-- a commit read or wrote a version before version i
abbrev pub Earlier : List ℕ → ℕ → VersionNumber → CommitNumber → Type 0
Earlier b base i a = (j : VersionNumber) × (j < i) × (T (has (readers_at b base j) a) ⊎ ((0 < j) × (a ≡ writer_at b base j)))

-- the links that version i makes: WW and RW, to its writer from another commit that wrote or read an earlier version; WR, from its writer to its readers
abbrev pub VersionLinks : List ℕ → ℕ → VersionNumber → CommitNumber → CommitNumber → Type 0
VersionLinks b base i a c = ((c ≡ writer_at b base i) × (a ≢ writer_at b base i) × Earlier b base i a) ⊎ ((a ≡ writer_at b base i) × T (has (readers_at b base i) c))

-- those of n versions of a key
abbrev pub KeyLinks : List ℕ → ℕ → ℕ → CommitNumber → CommitNumber → Type 0
KeyLinks b base n a c = (i : VersionNumber) × (0 < i) × (i < n) × VersionLinks b base i a c

-- how many versions key k has
abbrev pub versions_in : List ℕ → Key → ℕ
versions_in b k = le_at b (key_place b k) 4
