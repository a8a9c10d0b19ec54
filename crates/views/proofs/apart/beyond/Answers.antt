-- `views::apart::beyond` meets its contract. Assumes nothing.
use Rattle.views.proofs.Parted.{subtracted-views, parted-none}
use Rattle.views.proofs.apart.beyond.Goals as goal

pub returns-then-subtract-eq0 : goal.returns-then-subtract-eq0
returns-then-subtract-eq0 c = λ s a b h p q. parted-none _ _ _ _ c.subtract.ensures c.if-subtract-eq0.true h p q

pub returns : goal.returns
returns c = λ s a b h p q.
    c.take_all.ensures s _ h (subtracted-views _ _ _ _ c.subtract.ensures p q)
