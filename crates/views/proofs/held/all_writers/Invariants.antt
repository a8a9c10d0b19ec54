-- `views::held::all_writers` meets its contract. The loop's invariant: the set has the commits that wrote one of the keys passed. Assumes nothing.
use Rattle.state.specs.Keeps.{IsSet}
use Rattle.views.specs.Writing.{WriterBelow}
use Rattle.views.proofs.held.all_writers.Given as goal

abbrev pub invariant-loop-writers : goal.invariant-loop-writers
invariant-loop-writers l =
    IsSet l.all (WriterBelow l.keys l.writers-index)
