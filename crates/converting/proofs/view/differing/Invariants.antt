-- `converting::view::differing` meets its contract. The loop's invariant: the set is of the keys passed at which the views differ. Assumes nothing.
use mathlib.Core.Path.{◌≡◌}
use Rattle.store.specs.Store.{View}
use Rattle.trace.specs.Edition.{changed}
use Rattle.state.specs.Rows.{RowAt}
use Rattle.converting.proofs.view.differing.Given as goal

abbrev pub invariant-loop-k : goal.invariant-loop-k
invariant-loop-k l = (before u : View) → RowAt l.n l.views l.base before → RowAt l.n l.fresh 0 u → l.listed ≡ changed l.k before u
