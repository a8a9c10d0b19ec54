-- The newest version that a mask holds of a key, as the array of versions has it. Assumes nothing.
use Rattle.std.specs.Prelude.{ℕ, ◌%◌, ◌^◌, List, get_or}
use Rattle.sets.specs.Set.{Set, highest}
use Rattle.store.specs.Store.{Key}
use Rattle.store.specs.Update.{Visible}
use Rattle.state.specs.Places.{head_place, writer_in}

-- the head of that version
abbrev pub head_in : List ℕ → Set → Key → ℕ
head_in versions m k = get_or versions (head_place k (highest m)) 0

abbrev pub visible_in : List ℕ → Set → Key → Visible
visible_in versions m k = record { value = head_in versions m k % 2 ^ 32; version = highest m; writer = writer_in (head_in versions m k) }
