-- `views::masks::wrong` meets its contract: where the words of all keys are empty, so are their two parts. Assumes nothing.
use Rattle.std.proofs.Common.{◌≡◌, get_or, rules}
use Rattle.sets.specs.Set.{union, without}
use Rattle.views.proofs.Tests.{union-zero}
use Rattle.views.proofs.masks.wrong.Goals as goal

pub returns : goal.returns
returns c = λ z k l.
    let p = c.gathered.ensures.none z k l in
    let mask = get_or c.args.fresh.now k 0 in
    let e : union (without 1 mask) (without mask (get_or c.args.keys.now k 0)) ≡ 0 = search rules in
    (union-zero _ _).0 e
