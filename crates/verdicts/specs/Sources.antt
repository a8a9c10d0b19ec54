-- What the functions that gather sets of commits answer, of the lists in the arrays. Assumes nothing.
use Rattle.std.specs.Prelude.{ℕ, ◌+◌, ◌*◌, ◌<◌, ◌≡◌, ◌⊎◌, List, T, get_or}
use Rattle.sets.specs.Set.{Set, has, lowest, single}
use Rattle.store.specs.Store.{Key, CommitNumber}
use Rattle.state.specs.Places.{writers_place, before_place, read_place}
use Rattle.state.specs.Rows.{InRows}
use Rattle.state.specs.Keeps.{IsSet}
use Rattle.state.specs.declared.Gathered.{Gathered}

-- a is among the writers of a key below n that has a write among the ranks
abbrev pub InKeys : List ℕ → Set → ℕ → CommitNumber → Type 0
InKeys keys ranks n a = (k : Key) × (k < n) × (T (has ranks (2 * k + 1)) × T (has (get_or keys (writers_place k) 0) a))

-- where clause 3 or 4 is asked for: the rows of both are gathered, or all of the set is below what is lacking
abbrev pub PastOf : List ℕ → Set → Set → Set → Gathered → Type 0
PastOf commits seen lacking live r =
    T (has live 3) ⊎ T (has live 4)
    → (IsSet r.first (InRows commits (before_place 0) seen) × IsSet r.second (InRows commits (read_place 0) seen))
    ⊎ (((r.first ≡ 0) × (r.second ≡ 0)) × (seen < single (lowest lacking)))
