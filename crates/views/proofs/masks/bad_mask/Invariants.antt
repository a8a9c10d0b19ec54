-- `views::masks::bad_mask` meets its contract. The loop's invariant: no key passed has a bad mask. Assumes nothing.
use Rattle.std.proofs.Common.{◌≡◌, ℕ, ◌<◌, T}
use Rattle.store.specs.Store.{View, Store}
use Rattle.store.specs.Refusal.{bad_mask_at}
use Rattle.state.specs.Keeps.{KeepsKeys, KeepsMasks}
use Rattle.views.proofs.masks.bad_mask.Given as goal

abbrev pub invariant-loop-k : goal.invariant-loop-k
invariant-loop-k l =
    (s : Store) (u : View) → s.keys ≡ l.n → KeepsKeys s l.keys → KeepsMasks l.n u l.fresh → (j : ℕ) → j < l.k → ¬ T (bad_mask_at s u j)
