-- "A view" (01, Store and views), as a fact of a store and its masks. Assumes nothing.
use Rattle.std.specs.Prelude.{ℕ, ◌^◌, ◌≤◌, ◌<◌, ◌≡◌, T}
use Rattle.sets.specs.Set.{has}
use Rattle.store.specs.Store.{Key, View, Store, count}
use Rattle.store.specs.History.{Wrote}

-- "A view holds version 0 of each key, only versions that exist, and all versions of a writer if it holds one"; a mask is a word,
-- and there is none beyond the keys
pub record IsView (s : Store) (u : View) : Type 0 where
  pub word : (k : Key) → u k < 2 ^ 64
  pub beyond : (k : Key) → s.keys ≤ k → u k ≡ 0
  pub opened : (k : Key) → k < s.keys → T (has (u k) 0)
  pub exist : (k i : ℕ) → T (has (u k) i) → i < count s k
  pub whole : (t k i l j : ℕ) → T (has (u k) i) → Wrote s t k i → Wrote s t l j → T (has (u l) j)

-- what the form of a record ensures of its masks: each is a word, and there is none beyond the keys
pub record FitsView (keys : ℕ) (u : View) : Type 0 where
  pub word : (k : Key) → u k < 2 ^ 64
  pub beyond : (k : Key) → keys ≤ k → u k ≡ 0
