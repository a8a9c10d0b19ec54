-- "Store and views" (01), rules 1 to 4 and the rule of a shift, as facts: codes 9 to 14 are due exactly where one of these does not hold
-- (crates/store/proofs/Legal.antt). Assumes nothing.
use Rattle.std.specs.Prelude.{ℕ, ◌<◌, ◌≡◌, T}
use Rattle.std.proofs.Math.Option.{some}
use Rattle.sets.specs.Set.{has}
use Rattle.store.specs.Store.{Key, CommitNumber, Client, View, Configuration, read, Commit}
use Rattle.store.specs.Update.{value_of, reads, writes, newest_visible, view_before, store_after}
use Rattle.store.specs.History.{InLog}
use Rattle.store.specs.View.{IsView}

-- "A shift replaces a client's view by one that holds at least as much at every key; an equal one is allowed."
pub record LegalShift (g : Configuration) (d : Client) (u : View) : Type 0 where
  pub view : IsView g.store u
  pub grows : (k i : ℕ) → T (has (g.views d k) i) → T (has (u k) i)

-- a commit that the store takes
pub record LegalCommit (g : Configuration) (c : Commit) : Type 0 where
  -- 1. its session number is above "every earlier number of that client in the trace, operations or none" (02, E7)
  pub newer : (t : CommitNumber) → InLog g.store c.client t → g.store.session_of t < c.session
  -- 2. "Each read's value is that of the newest version that u holds of its key."
  pub values : (k x : ℕ) → value_of read c.operations k ≡ some x → x ≡ (newest_visible g.store (view_before g c) k).value
  -- 4. "The view after, u', is a view of the new store, and differs from u only at keys with an operation."
  pub view : IsView (store_after g c) c.view_after
  pub still : (k : Key) → ¬ T (reads c k) → ¬ T (writes c k) → c.view_after k ≡ view_before g c k
