-- Code 14 at one key, in terms of the words that the code has. Assumes nothing.
use Rattle.std.specs.Prelude.{ℕ, ◌+◌, ◌*◌, Bool, not, ◌&&◌, ◌||◌, ◌==◌}
use Rattle.sets.specs.Set.{Set, has}

-- the key has neither a read (rank 2 * k) nor a write (rank 2 * k + 1), and its mask is not that of the view
unfoldable pub strays : Set → Set → Set → ℕ → Bool
strays mask view ranks k = not (has ranks (2 * k) || has ranks (2 * k + 1)) && not (mask == view)
