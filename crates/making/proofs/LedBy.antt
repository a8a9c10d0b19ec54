-- What leads to a commit that is given, in the sets that the code finds. Assumes nothing.
use Prim.Native.Nat.{ℕ, ◌*◌, ◌^◌, ◌<◌}
use mathlib.Core.Path.{sym, subst}
use mathlib.Core.List.{List}
use lib.Dec.{eqb, eqb→eq, T_not}
use lib.ListN.{get_or}
use Rattle.search.specs.Choose.{choose}
use Rattle.search.proofs.Choose.{choose-ind}
use Rattle.search.proofs.Tests.{eq_test}
use Rattle.sets.specs.Set.{Set}
use Rattle.store.specs.Limits.{max_keys, max_clients}
use Rattle.store.specs.Store.{View, Store, Commit}
use Rattle.growth.specs.Links.{FromSession}
use Rattle.state.specs.Keeps.{IsSet, CommitOf}
use Rattle.state.proofs.Sets.{is_set-as, is_set-none}
use Rattle.operations.specs.Given.{Given}
use Rattle.making.specs.Commits.{CommitGiven}
use Rattle.making.proofs.Operating.{idle-ranks, busy-ranks}

module _ (s : Store) (u : View) (c : Commit) (versions keys views sessions values : List ℕ) (client : ℕ) (ranks : Set) (n : ℕ)
    (g : CommitGiven s u c versions keys views sessions values client ranks n) where
  pub as-given : Given s u c versions views (max_keys * client) values ranks n
  as-given = record {
    keys-are = g.keys-are;
    sound = g.made.sound;
    view = g.made.view;
    fits = g.made.fits;
    room-left = g.room-left;
    in-versions = g.in-versions;
    row = g.row;
    operations = g.operations;
  }

  -- what SO leads from: the commits of the client, where there is an operation
  pub led-before : client < max_clients → ranks < 2 ^ 64 → IsSet (choose (eqb ranks 0) 0 (get_or sessions client 0)) (FromSession s c)
  led-before b w = choose-ind (λ (m : ℕ). IsSet m (FromSession s c)) (eqb ranks 0) 0 (get_or sessions client 0)
      (λ e. is_set-none (λ t x. idle-ranks c ranks values g.operations (eqb→eq ranks 0 e) x.0))
      (λ e.
      let o = busy-ranks c ranks values g.operations w (λ q. T_not (eqb ranks 0) e (eq_test ranks 0 q)) in
      is_set-as _ (λ t. (λ x. (o, x), λ x. x.1)) (subst (λ (d : ℕ). IsSet (get_or sessions client 0) (CommitOf s d)) (sym g.client-is) (g.in-sessions.commits-of client b)))
