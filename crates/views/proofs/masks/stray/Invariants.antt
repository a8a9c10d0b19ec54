-- `views::masks::stray` meets its contract. The loop's invariant: no key passed strays. Assumes nothing.
use Rattle.std.proofs.Common.{◌≡◌, ℕ, ◌<◌, T, List}
use Rattle.store.specs.Store.{View, Store, Commit}
use Rattle.store.specs.Refusal.{stray_at}
use Rattle.state.specs.Keeps.{KeepsMasks, KeepsOperations}
use Rattle.state.specs.Rows.{RowAt}
use Rattle.views.proofs.masks.stray.Given as goal

abbrev pub invariant-loop-k : goal.invariant-loop-k
invariant-loop-k l =
    (s : Store) (old : View) (c : Commit) (values : List ℕ) → s.keys ≡ l.n → RowAt l.n l.views l.base old → KeepsMasks l.n c.view_after l.fresh → KeepsOperations c l.ranks values → (j : ℕ) → j < l.k → ¬ T (stray_at old c j)
