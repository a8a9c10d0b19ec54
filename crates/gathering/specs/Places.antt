-- Who wrote the versions that a mask holds, by the places of their bytes in an image. The contracts of the code that gathers a row cite these. Assumes
-- nothing.
use Rattle.std.specs.Prelude.{ℕ, ◌+◌, ◌*◌, ◌≤◌, ◌<◌, ◌≡◌, ◌↔◌, List, T, length}
use Rattle.sets.specs.Set.{Set, has}
use Rattle.endian.specs.Endian.{le_at}
use Rattle.store.specs.Limits.{numbers}
use Rattle.store.specs.Store.{CommitNumber, VersionNumber}
use Rattle.store.specs.Reading.{key_place}
use Rattle.reading.specs.Parts.{writer_at, key_end}
use Rattle.reading.specs.Gains.{versions_in}

-- a set holds exactly the commits of which P holds
pub record Gathers (m : Set) (P : CommitNumber → Type 0) : Type 0 where
  pub says : (a : CommitNumber) → T (has m a) ↔ P a

-- commit a wrote one of n versions, which stand from `base` on, that the mask holds
abbrev pub WroteHeld : List ℕ → ℕ → ℕ → Set → CommitNumber → Type 0
WroteHeld b base n mask a = (i : VersionNumber) × (i < n) × T (has mask i) × (a ≡ writer_at b base i)

-- one of some key of n that the mask of that key holds; the masks stand from `masks` on, by rising key
abbrev pub WroteSeen : List ℕ → ℕ → ℕ → CommitNumber → Type 0
WroteSeen b masks n a = (k : ℕ) × (k < n) × WroteHeld b (key_place b k + 4) (versions_in b k) (le_at b (masks + 8 * k) 8) a

-- the key that stands at a place can be read: it stands within the bytes, has at most 64 versions, and each is by a commit or by the opening transaction
pub record KeyReads (b : List ℕ) (at : ℕ) : Type 0 where
  pub within : key_end b at ≤ length b
  pub few : le_at b at 4 ≤ numbers
  pub writer : (i : VersionNumber) → i < le_at b at 4 → writer_at b (at + 4) i < numbers
