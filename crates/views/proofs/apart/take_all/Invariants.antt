-- `views::apart::take_all` meets its contract. The loop's invariant: the commits with a version of a key passed are found. Assumes nothing.
use Rattle.std.proofs.Common.{ℕ, ◌<◌}
use Rattle.store.specs.Store.{View, Store}
use Rattle.state.specs.Rows.{RowAt}
use Rattle.views.specs.Parted.{Versions, Parting, PartedAt}
use Rattle.views.proofs.apart.take_all.Given as goal

abbrev pub invariant-loop-k : goal.invariant-loop-k
invariant-loop-k l =
    (s : Store) (d : View) → Versions s d l.n l.versions → RowAt l.n l.initial.left 0 d → Parting s d l.n l.left l.found.all l.found.half × ((q : ℕ) → q < l.k → PartedAt s d l.found.all q)
