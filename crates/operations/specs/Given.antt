-- The commit at hand: made on a view of a store, as the arrays of the judge have them. Assumes nothing.
use Rattle.std.specs.Prelude.{◌≡◌, ℕ, ◌<◌, ◌≤◌, T, List}
use Rattle.sets.specs.Set.{Set}
use Rattle.store.specs.Limits.{max_commits}
use Rattle.store.specs.Store.{Key, View, Store, count, next_number, Commit}
use Rattle.store.specs.Update.{writes}
use Rattle.store.specs.View.{IsView}
use Rattle.store.specs.Sound.{SoundStore, WithinKeys}
use Rattle.state.specs.Rows.{RowAt}
use Rattle.state.specs.Keeps.{KeepsVersions, KeepsKeys, KeepsOperations}

-- commit c is to be made on view u of store s, which has n keys and room for a commit; the versions, the row of the view and the
-- operations are in the arrays
pub record Given (s : Store) (u : View) (c : Commit) (versions views : List ℕ) (base : ℕ) (values : List ℕ) (ranks : Set) (n : ℕ) : Type 0 where
  pub keys-are : s.keys ≡ n
  pub sound : SoundStore s
  pub view : IsView s u
  pub fits : WithinKeys s.keys c
  pub room-left : next_number s ≤ max_commits
  pub in-versions : KeepsVersions s versions
  pub row : RowAt n views base u
  pub operations : KeepsOperations c ranks values

-- a store with room for a version more of each key, as the arrays have it, and the writes of a commit
pub record Appending (s : Store) (c : Commit) (versions keys values : List ℕ) (ranks : Set) (n : ℕ) : Type 0 where
  pub keys-are : s.keys ≡ n
  pub only-keys : (k i : ℕ) → i < count s k → k < s.keys
  pub write-keys : (k : Key) → T (writes c k) → k < s.keys
  pub room-left : (k : Key) → count s k ≤ max_commits
  pub in-versions : KeepsVersions s versions
  pub in-keys : KeepsKeys s keys
  pub operations : KeepsOperations c ranks values
