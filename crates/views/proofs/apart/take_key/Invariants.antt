-- `views::apart::take_key` meets its contract. The loop's invariant: the commits found are taken, and what is met is what is left of the key. Assumes nothing.
use Rattle.std.proofs.Common.{ℕ, ◌^◌, ◌<◌, T, ◌↔◌, get_or}
use Rattle.sets.specs.Set.{has}
use Rattle.store.specs.Store.{View, Store}
use Rattle.views.specs.Parted.{Versions, Parting}
use Rattle.views.proofs.apart.take_key.Given as goal

abbrev pub invariant-loop-met : goal.invariant-loop-met
invariant-loop-met l =
    (l.met < 2 ^ 64)
    × ((s : Store) (d : View) → Versions s d l.n l.versions → Parting s d l.n l.initial.left l.initial.all l.initial.half
    → Parting s d l.n l.left l.all l.half × ((t : ℕ) → T (has l.initial.all t) → T (has l.all t)) × ((j : ℕ) → T (has l.met j) ↔ T (has (get_or l.left l.i 0) j)))

abbrev pub decreases-loop-met : goal.decreases-loop-met
decreases-loop-met l = l.met
