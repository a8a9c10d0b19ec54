-- `views::masks::keep` meets its contract. The loop's invariant: the masks of the keys passed are copied. Assumes nothing.
use Rattle.views.specs.Rows.{Kept}
use Rattle.views.proofs.masks.keep.Given as goal

abbrev pub invariant-loop-k : goal.invariant-loop-k
invariant-loop-k l = Kept l.fresh l.base l.k l.initial.views l.views
