-- A commit in a record of the file, and what is given where it is read and made. Assumes nothing.
use Rattle.std.specs.Prelude.{ℕ, ◌≤◌, ◌≡◌, List, T, Result, Ok}
use Rattle.std.proofs.Math.Option.{Option}
use Rattle.search.specs.Choose.{or_else}
use Rattle.sets.specs.Set.{Set}
use Rattle.store.specs.Limits.{max_clients, max_commits}
use Rattle.store.specs.Store.{Configuration, next_number, Commit, Event}
use Rattle.store.specs.Update.{step}
use Rattle.store.specs.Refusal.{old_number, refuses_event}
use Rattle.store.specs.Sound.{Sound}
use Rattle.store.specs.Image.{ClientsFit}
use Rattle.growth.specs.Ordered.{Ordered}
use Rattle.trace.specs.Entry.{commit_meant}
use Rattle.trace.specs.Format.{operations_at}
use Rattle.trace.specs.Meaning.{listing_of}
use Rattle.trace.specs.Sorted.{SortedAs, ListsBy}
pub use Rattle.trace.specs.Sorted.{ValuesFit}
use Rattle.trace.specs.WellFormed.{FitsCommit}
use Rattle.state.specs.declared.Refusal.{Refusal}
use Rattle.state.specs.Keeps.{KeepsMasks, KeepsOperations, Keeps}
use Rattle.shifts.specs.Outcomes.{outcome_of}
use Rattle.levels.specs.Level.{Level, Failure, fails_event}
use Rattle.verdicts.specs.Verdicts.{KeepsVerdicts}
use Rattle.commits.specs.declared.record.CommitAt.{CommitAt}

-- its operations are sorted, and where it lists the masks of their keys it is by their ranks
abbrev pub SortedIn : List ℕ → CommitAt → List ℕ → Type 0
SortedIn file at values = SortedAs file at.operations at.count at.ranks values × ListsBy file at.ranks at.listing

-- the commit that is meant by a record whose parts stand at these places of a file
abbrev pub commit_in : Configuration → List ℕ → CommitAt → ℕ → Commit
commit_in g file at n = commit_meant g at.client at.session (operations_at file at.operations at.count) (listing_of file n at.listing)

-- a commit on a configuration that the arrays keep
pub record Recorded (g : Configuration) (c : Commit) (clients n : ℕ) (versions keys views seen sessions commits links : List ℕ) : Type 0 where
  pub sound : Sound g
  pub ordered : Ordered g.store
  pub keys-are : g.store.keys ≡ n
  pub room-left : next_number g.store ≤ max_commits
  pub clients-fit : ClientsFit g.store
  pub few-clients : clients ≤ max_clients
  pub fits : FitsCommit n clients c
  pub keeps : Keeps g versions keys views seen sessions commits links

-- it is ready to be made: its session number is not too small, and its parts are at hand
pub record Ready (g : Configuration) (c : Commit) (clients client session : ℕ) (ranks : Set) (n me : ℕ)
    (versions keys views seen sessions commits links values fresh : List ℕ) : Type 0 where
  pub recorded : Recorded g c clients n versions keys views seen sessions commits links
  pub client-is : c.client ≡ client
  pub session-is : c.session ≡ session
  pub number_is : next_number g.store ≡ me
  pub operations : KeepsOperations c ranks values
  pub masks : KeepsMasks n c.view_after fresh
  pub new-number : ¬ T (old_number g.store c)

-- ---- what a record comes to

-- event e was done: its outcome is the refusal that is due, and where none is, the arrays keep what it leads to
pub record EventDone (i : ℕ) (g : Configuration) (fs : Level → Option Failure) (e : Event) (versions keys views seen sessions commits links verdicts values : List ℕ) (o : Result (Unit {0}) Refusal) : Type 0 where
  pub answer : outcome_of o ≡ refuses_event i g e
  pub small : ValuesFit values
  pub kept : o ≡ Ok tt → Keeps (step g e) versions keys views seen sessions commits links × KeepsVerdicts (λ l. or_else (fs l) (fails_event l i g e)) verdicts
