-- The masks of a view, as the trace file and the image have them: a u64 for each key, by rising key. Assumes nothing.
use Rattle.std.specs.Prelude.{ℕ, ◌+◌, ◌*◌, List, ltb}
use Rattle.search.specs.Choose.{choose}
use Rattle.endian.specs.Endian.{le_at, le_bytes, pieces}
use Rattle.store.specs.Store.{View}

-- "K view masks u64"
unfoldable pub view_bytes : ℕ → View → List ℕ
view_bytes keys u = pieces keys (λ k. le_bytes 8 (u k))

-- those that stand at a place; a key that the store does not have has an empty mask
unfoldable pub view_at : List ℕ → ℕ → ℕ → View
view_at s at keys k = choose (ltb k keys) (le_at s (at + 8 * k) 8) 0
