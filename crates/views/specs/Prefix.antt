-- Masks that hold, of each key, all versions up to some. Assumes nothing.
use Rattle.std.specs.Prelude.{ℕ, ◌<◌, ◌≤◌, T, List, slice_index}
use Rattle.sets.specs.Set.{Set, has}
use Rattle.store.specs.Store.{Key, CommitNumber, View, Store}
use Rattle.store.specs.History.{Wrote}

-- with a number the set holds all below it
abbrev pub Downward : Set → Type 0
Downward m = (i j : ℕ) → T (has m i) → j ≤ i → T (has m j)

-- each of the first n masks is such
abbrev pub Prefixes : List ℕ → ℕ → Type 0
Prefixes fresh n = (k : Key) → k < n → Downward (slice_index fresh k)

-- t wrote a version that the view lacks
abbrev pub Lacks : Store → View → CommitNumber → Type 0
Lacks s u t = (k : Key) × ((i : ℕ) × (¬ T (has (u k) i)) × Wrote s t k i)
