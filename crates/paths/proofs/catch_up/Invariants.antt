-- `paths::catch_up` meets its contract. The loop's invariant: the links are entered up to the last commit, for every store that the array follows. Assumes nothing.
use mathlib.Core.Path.{◌≡◌}
use Rattle.store.specs.Store.{Store}
use Rattle.state.specs.Keeps.{EnteredTo, FollowsLinks}
use Rattle.paths.proofs.catch_up.Given as goal

abbrev pub invariant-loop-last : goal.invariant-loop-last
invariant-loop-last l = (s : Store) → s.keys ≡ l.n → s.commits ≡ l.end → FollowsLinks s l.initial.links → EnteredTo l.last s l.links
