-- What holds of the views in the store (02, E8), said of the store alone, so that it can be asked of an image without its trace. Assumes nothing.
use Rattle.std.specs.Prelude.{ℕ, ◌^◌, ◌≤◌, ◌<◌, ◌≡◌, T}
use Rattle.sets.specs.Set.{has}
use Rattle.store.specs.Store.{Key, CommitNumber, View, Store, count, version}

-- u is "a view of the store as it was before" commit b: the versions of that store are those by earlier commits, and "A view holds version 0 of each key,
-- only versions that exist, and all versions of a writer if it holds one" (01); a mask is a word, and there is none beyond the keys
pub record ViewBefore (s : Store) (b : CommitNumber) (u : View) : Type 0 where
  pub word : (k : Key) → u k < 2 ^ 64
  pub beyond : (k : Key) → s.keys ≤ k → u k ≡ 0
  pub opened : (k : Key) → k < s.keys → T (has (u k) 0)
  pub exist : (k i : ℕ) → T (has (u k) i) → (i < count s k) × ((version s k i).writer < b)
  pub whole : (k i l j : ℕ) → T (has (u k) i) → j < count s l → (version s l j).writer ≡ (version s k i).writer → T (has (u l) j)

-- "what holds of stored views must hold of these: each is a view of the store as it was before that commit"
abbrev pub StoredViews : Store → Type 0
StoredViews s = (b : CommitNumber) → 0 < b → b ≤ s.commits → ViewBefore s b (s.view_of b)
