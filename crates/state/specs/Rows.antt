-- Sets of commits in the rows of an array, and a view in a row. Assumes nothing.
use Rattle.std.specs.Prelude.{ℕ, ◌+◌, ◌<◌, ◌≡◌, List, T, get_or}
use Rattle.sets.specs.Set.{Set, has}
use Rattle.store.specs.Store.{Key, CommitNumber, View}

-- a is in the row of a member of the set; the row of number t stands at from + t
abbrev pub InRows : List ℕ → ℕ → Set → CommitNumber → Type 0
InRows rows from set a = (t : CommitNumber) × T (has set t) × T (has (get_or rows (from + t) 0) a)

-- the masks of the view stand in the array from `base` on: the row of client d starts at max_keys * d, and the masks of a record at 0
abbrev pub RowAt : ℕ → List ℕ → ℕ → View → Type 0
RowAt keys masks base u = (k : Key) → k < keys → get_or masks (base + k) 0 ≡ u k
