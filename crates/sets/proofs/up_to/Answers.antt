-- `sets::up_to` meets its contract. Assumes nothing.
use mathlib.Core.Path.{sym, ap, ◌∙◌}
use native.Mathlib.Numerals.{add-one}
use Rattle.sets.specs.Set.{below}
use Rattle.sets.proofs.Algebra.{insert-below}
use Rattle.sets.proofs.up_to.Goals as goal

pub returns : goal.returns
returns c = rw c.single-last.ensures (insert-below c.args.i ∙ ap below (sym (add-one c.args.i)))
