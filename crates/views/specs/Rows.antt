-- Masks copied into a row of an array. Assumes nothing.
use Rattle.std.specs.Prelude.{◌≡◌, ℕ, ◌+◌, ◌<◌, ◌≤◌, ◌⊎◌, List, length, slice_index}
use Rattle.store.specs.Store.{Key}

-- the view in the row at `base` goes to the row at `place`, and the first n masks to `base`; all other places are as before
pub record Moved (fresh : List ℕ) (base place n : ℕ) (before after : List ℕ) : Type 0 where
  pub long : length after ≡ length before
  pub row : (k : Key) → k < n → slice_index after (base + k) ≡ slice_index fresh k
  pub stored : (k : Key) → k < n → slice_index after (place + k) ≡ slice_index before (base + k)
  pub others : (j : ℕ) → (j < base) ⊎ (base + n ≤ j) → (j < place) ⊎ (place + n ≤ j) → slice_index after j ≡ slice_index before j

-- the first n masks are copied to `base`, and all other places are as before
pub record Kept (fresh : List ℕ) (base n : ℕ) (before after : List ℕ) : Type 0 where
  pub long : length after ≡ length before
  pub row : (k : Key) → k < n → slice_index after (base + k) ≡ slice_index fresh k
  pub others : (j : ℕ) → (j < base) ⊎ (base + n ≤ j) → slice_index after j ≡ slice_index before j
