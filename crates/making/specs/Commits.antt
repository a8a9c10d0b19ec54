-- A commit that is made on the arrays. Assumes nothing.
use Rattle.std.specs.Prelude.{ℕ, ◌≤◌, ◌≡◌, List}
use Rattle.sets.specs.Set.{Set}
use Rattle.store.specs.Limits.{max_commits}
use Rattle.store.specs.Store.{View, Store, next_number, Commit}
use Rattle.growth.specs.Made.{Made}
use Rattle.growth.specs.Ordered.{Ordered}
use Rattle.state.specs.Keeps.{RowIs, KeepsOperations, KeepsVersions, KeepsKeys, KeepsSessions, KeepsCommits, FollowsLinks}

-- commit c of a client, on view u of store s; the store, the view and the operations are in the arrays
pub record CommitGiven (s : Store) (u : View) (c : Commit) (versions keys views sessions values : List ℕ) (client : ℕ) (ranks : Set) (n : ℕ) : Type 0 where
  pub made : Made s u c
  pub ordered : Ordered s
  pub keys-are : s.keys ≡ n
  pub room-left : next_number s ≤ max_commits
  pub client-is : c.client ≡ client
  pub in-versions : KeepsVersions s versions
  pub in-keys : KeepsKeys s keys
  pub row : RowIs n views client u
  pub in-sessions : KeepsSessions s sessions
  pub operations : KeepsOperations c ranks values

-- the arrays of the store keep it
pub record MadeIn (s : Store) (versions keys sessions commits links : List ℕ) : Type 0 where
  pub in-versions : KeepsVersions s versions
  pub in-keys : KeepsKeys s keys
  pub in-sessions : KeepsSessions s sessions
  pub in-commits : KeepsCommits s commits
  pub in-links : FollowsLinks s links
