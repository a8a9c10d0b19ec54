-- `views::masks::strays` meets its contract. Assumes nothing.
use Rattle.views.proofs.Codes.{strays-same, strays-read, strays-unread}
use Rattle.views.proofs.masks.strays.Goals as goal

pub returns-then-mask-view : goal.returns-then-mask-view
returns-then-mask-view c = strays-same _ _ _ _ c.if-mask-view.true

pub returns-then-has : goal.returns-then-has
returns-then-has c = strays-read _ _ _ _ c.if-has.true c.has.ensures

pub returns : goal.returns
returns c = strays-unread _ _ _ _ c.if-mask-view.false c.if-has.false c.has.ensures c.has-2.ensures
