-- `commits::late::own_number` meets its contract. Assumes nothing.
use Rattle.commits.proofs.OwnOnly.{number-none, number-alone}
use Rattle.commits.proofs.late.own_number.Goals as goal

pub returns-then-keys_with-eq0 : goal.returns-then-keys_with-eq0
returns-then-keys_with-eq0 c = λ k values h small. number-none _ _ _ c.keys_with.ensures k values h small c.if-keys_with-eq0.true

pub returns : goal.returns
returns c = λ k values h small. number-alone _ _ _ c.keys_with.ensures k values h small c.single.ensures c.if-keys_with-eq0.false
