-- What the tests of code 20 ask of each part of an image, by the places of its bytes. The contracts of the code cite these; together they are
-- the definition of Shape.antt (proofs/Shaped.antt). Assumes nothing.
use Rattle.std.specs.Prelude.{ℕ, ◌+◌, ◌-◌, ◌*◌, ◌≤◌, ◌<◌, ◌≡◌, ◌≢◌, List, length}
use Rattle.std.specs.Int.Bits.{bit_and}
use Rattle.endian.specs.Endian.{le_at}
use Rattle.sets.specs.Set.{Set, without}
use Rattle.store.specs.Limits.{max_clients}
use Rattle.store.specs.Store.{CommitNumber, Client, SessionNumber, VersionNumber}
use Rattle.ordering.specs.Shape.{commit_set}
use Rattle.store.specs.Reading.{image_keys, image_commits, commit_size, key_place}

-- ---- an entry

-- where entry t stands, an entry and its masks taking `step` bytes
abbrev pub entry_place : ℕ → CommitNumber → ℕ
entry_place step t = 8 + step * (t - 1)

-- what it says
abbrev pub client_at : List ℕ → ℕ → CommitNumber → Client
client_at b step t = le_at b (entry_place step t) 1

abbrev pub session_at : List ℕ → ℕ → CommitNumber → SessionNumber
session_at b step t = le_at b (entry_place step t + 4) 4

-- no earlier entry has its client and number
abbrev pub NewEntry : List ℕ → ℕ → CommitNumber → Type 0
NewEntry b step t = (a : CommitNumber) → 0 < a → a < t → ¬ ((client_at b step a ≡ client_at b step t) × (session_at b step a ≡ session_at b step t))

pub record EntryFits (b : List ℕ) (step : ℕ) (t : CommitNumber) : Type 0 where
  pub client : client_at b step t < max_clients
  pub spare : le_at b (entry_place step t + 1) 3 ≡ 0
  pub new : NewEntry b step t

-- ---- a key

-- version i of those that stand from `base` on
abbrev pub writer_at : List ℕ → ℕ → VersionNumber → CommitNumber
writer_at b base i = le_at b (base + 16 * i + 4) 1

abbrev pub readers_at : List ℕ → ℕ → VersionNumber → Set
readers_at b base i = le_at b (base + 16 * i + 8) 8

-- n versions
pub record VersionsFit (b : List ℕ) (base n commits : ℕ) : Type 0 where
  pub spare : (i : VersionNumber) → i < n → le_at b (base + 16 * i + 5) 3 ≡ 0
  pub writer : (i : VersionNumber) → i < n → writer_at b base i ≤ commits
  pub readers : (i : VersionNumber) → i < n → without (readers_at b base i) (commit_set commits) ≡ 0
  pub writes-once : (i j : VersionNumber) → i < j → j < n → writer_at b base i ≢ writer_at b base j
  pub reads-once : (i j : VersionNumber) → i < j → j < n → bit_and (readers_at b base i) (readers_at b base j) ≡ 0

-- the key that stands at a place, and where it ends
abbrev pub key_end : List ℕ → ℕ → ℕ
key_end b at = at + (4 + 16 * le_at b at 4)

pub record KeyFits (b : List ℕ) (at commits : ℕ) : Type 0 where
  pub some-version : 0 < le_at b at 4
  pub within : key_end b at ≤ length b
  pub first-value : le_at b (at + 4) 4 ≡ 0
  pub first-writer : le_at b (at + 8) 1 ≡ 0
  pub versions : VersionsFit b (at + 4) (le_at b at 4) commits

-- ---- all of them

pub record BodyFits (b : List ℕ) : Type 0 where
  pub entries : (t : CommitNumber) → 0 < t → t ≤ image_commits b → EntryFits b (commit_size (image_keys b)) t
  pub keys : (k : ℕ) → k < image_keys b → KeyFits b (key_place b k) (image_commits b)
  pub ends : key_place b (image_keys b) ≡ length b
