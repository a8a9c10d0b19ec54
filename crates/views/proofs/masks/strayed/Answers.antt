-- `views::masks::strayed` meets its contract. Assumes nothing.
use Rattle.views.proofs.Codes.{strays-same, strays-read, strays-written}
use Rattle.views.proofs.Tests.{xor-zero}
use Rattle.views.proofs.masks.strayed.Goals as goal

pub returns-then-has : goal.returns-then-has
returns-then-has c = λ _. strays-read _ _ _ _ c.if-has.true c.has.ensures

pub returns-then-has-2 : goal.returns-then-has-2
returns-then-has-2 c = λ _. strays-written _ _ _ _ c.if-has-2.true c.has-2.ensures

pub returns : goal.returns
returns c = λ z. strays-same _ _ _ _ ((xor-zero _ _).0 z)
