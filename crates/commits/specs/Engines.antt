-- What both ways to judge a commit are given (02, E10). Assumes nothing.
use Rattle.std.specs.Prelude.{ℕ, ◌<◌, ◌≡◌, Bool, List}
use Rattle.sets.specs.Set.{Set}
use Rattle.dependencies.specs.History.{Holds}
use Rattle.store.specs.Limits.{max_clients}
use Rattle.store.specs.Store.{Store, View, Commit, next_number}
use Rattle.store.specs.Sound.{SoundStore}
use Rattle.store.specs.History.{history, held}
use Rattle.store.specs.Image.{ClientsFit}
use Rattle.growth.specs.Ordered.{Ordered}
use Rattle.state.specs.Keeps.{IsSet, KeepsVersions, KeepsKeys, KeepsCommits, KeepsOperations, FollowsLinks}
use Rattle.state.specs.Rows.{RowAt}
use Rattle.verdicts.specs.AtHand.{AfterCommit}
use Rattle.trying.specs.declared.Tried.{Tried}

-- before the commit is made: the arrays keep store s, view u stands from `base` on, and `seen` are the commits that it holds
pub record BeforeCommit (s : Store) (u : View) (c : Commit) (values versions keys commits links views : List ℕ) (base : ℕ) (seen ranks : Set) (n me : ℕ) : Type 0 where
  pub keys-are : s.keys ≡ n
  pub sound : SoundStore s
  pub ordered : Ordered s
  pub number_is : next_number s ≡ me
  pub clients-fit : ClientsFit s
  pub in-versions : KeepsVersions s versions
  pub in-keys : KeepsKeys s keys
  pub in-commits : KeepsCommits s commits
  pub in-links : FollowsLinks s links
  pub row : RowAt n views base u
  pub operations : KeepsOperations c ranks values
  pub holds : IsSet seen (Holds (history s) (held u))

-- when it is made
pub record JudgedAfter (s : Store) (u : View) (c : Commit) (tried : Tried) (after own : Set) (versions keys commits views fresh values : List ℕ) (ranks : Set) (plain : Bool) (base n me : ℕ) : Type 0 where
  pub clients-fit : ClientsFit s
  pub client-below : c.client < max_clients
  pub after-commit : AfterCommit s u c tried.wanted (record { before = tried.seen; after = after; own = own }) versions keys commits views fresh values ranks plain base n me
