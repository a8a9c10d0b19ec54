-- The commits that wrote something, as the arrays say it. Assumes nothing.
use Rattle.std.specs.Prelude.{ℕ, ◌<◌, T, List, slice_index}
use Rattle.sets.specs.Set.{has}
use Rattle.store.specs.Store.{Key, CommitNumber}
use Rattle.state.specs.Places.{writers_place}

-- t wrote a version of key k; of some key below n
abbrev pub WriterAt : List ℕ → Key → CommitNumber → Type 0
WriterAt keys k t = T (has (slice_index keys (writers_place k)) t)

abbrev pub WriterBelow : List ℕ → ℕ → CommitNumber → Type 0
WriterBelow keys n t = (k : Key) × (k < n) × WriterAt keys k t
