-- `views::masks::lost` meets its contract. The loop's invariant: at the keys passed nothing of the view is lacking. Assumes nothing.
use Rattle.std.proofs.Common.{◌≡◌, ℕ, ◌<◌}
use Rattle.store.specs.Store.{View, Store}
use Rattle.store.specs.Refusal.{all_of}
use Rattle.store.specs.View.{IsView}
use Rattle.store.proofs.Missing.{MetAt}
use Rattle.state.specs.Keeps.{KeepsMasks}
use Rattle.state.specs.Rows.{RowAt}
use Rattle.views.proofs.masks.lost.Given as goal

abbrev pub invariant-loop-k : goal.invariant-loop-k
invariant-loop-k l =
    (s : Store) (old u : View) → s.keys ≡ l.n → IsView s old → RowAt l.n l.views l.base old → KeepsMasks l.n u l.fresh → (j : ℕ) → j < l.k → MetAt s (all_of old) u j
