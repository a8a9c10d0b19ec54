-- `views::missing::least_absent` meets its contract. The loop's invariant: nothing is missing at the keys passed. Assumes nothing.
use Rattle.std.proofs.Common.{◌≡◌, ℕ, ◌<◌, List}
use Rattle.store.specs.Store.{View, Store, Commit}
use Rattle.store.specs.Update.{update}
use Rattle.store.proofs.Missing.{MetAt}
use Rattle.growth.specs.Made.{Made}
use Rattle.state.specs.Keeps.{KeepsKeys, KeepsOperations}
use Rattle.state.specs.Rows.{RowAt}
use Rattle.views.specs.Rules.{of_written}
use Rattle.views.proofs.missing.least_absent.Given as goal

abbrev pub invariant-loop-k : goal.invariant-loop-k
invariant-loop-k l =
    (s : Store) (u : View) (t : Commit) (values : List ℕ) → Made s u t → s.keys ≡ l.n → KeepsKeys (update s u t) l.keys → KeepsOperations t l.ranks values → RowAt l.n l.masks l.base u → (j : ℕ) → j < l.k → MetAt s (of_written l.ranks) u j
