-- Masks that a record lists for some keys only, by rising key (02, E6). Assumes nothing.
use Rattle.std.specs.Prelude.{ℕ, suc, ◌+◌, ◌*◌, Bool, false, ◌||◌, List, [], ◌∷◌, eqb}
use Rattle.search.specs.Choose.{choose, when}
use Rattle.search.specs.Search.{how_many}
use Rattle.endian.specs.Endian.{le_at, le_bytes, pieces}
use Rattle.store.specs.Store.{Key, View, Operation}
use Rattle.trace.specs.Entry.{Listed}

-- the masks that stand at a place, of the keys that are listed: that of a key stands behind those of the lower keys
unfoldable pub listed_at : List ℕ → ℕ → (Key → Bool) → Listed
listed_at s at f k = when (f k) (le_at s (at + 8 * how_many k f) 8)

-- the masks of a view as they are written, of those of its keys that are listed
unfoldable pub listed_bytes : ℕ → (Key → Bool) → View → List ℕ
listed_bytes keys f u = pieces keys (λ k. choose (f k) (le_bytes 8 (u k)) [])

-- "the keys with an operation"
unfoldable pub touched : List Operation → Key → Bool
touched [] k = false
touched (o ∷ os) k = eqb o.key k || touched os k

-- how many have a key that "differs from the one before", which was k
unfoldable pub keys_after : Key → List Operation → ℕ
keys_after k [] = 0
keys_after k (o ∷ os) = choose (eqb o.key k) 0 1 + keys_after o.key os

-- "each operation whose key differs from the one before (the first always counts)"
unfoldable pub keys_in : List Operation → ℕ
keys_in [] = 0
keys_in (o ∷ os) = suc (keys_after o.key os)
