-- `views::masks::store_and_keep` meets its contract. The loop's invariant: the masks of the keys passed are stored, and copied over. Assumes nothing.
use Rattle.views.specs.Rows.{Moved}
use Rattle.views.proofs.masks.store_and_keep.Given as goal

abbrev pub invariant-loop-k : goal.invariant-loop-k
invariant-loop-k l = Moved l.fresh l.base l.place l.k l.initial.views l.views
