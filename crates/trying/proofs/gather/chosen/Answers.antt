-- `trying::gather::chosen` meets its contract. The loops' invariant: what the versions passed give is gathered. Assumes nothing.
use native.Mathlib.Omega.{arith}
use Rattle.trying.specs.Tries.{ChosenAt}
use Rattle.trying.proofs.Passing.{from-turn, from_key, from_all}
use Rattle.trying.proofs.gather.chosen.Goals as goal

pub loop-i-preserved : goal.loop-i-preserved
loop-i-preserved c =
    let a = c.args in
    let l = c.loop-i in
    from-turn a.keys.now a.n (ChosenAt a.versions.now a.masks.now a.base a.ranks a.readers) l.all l.invariant c.chosen_at-here.result c.chosen_at-here.ensures c.union-all.ensures (omega arith) (omega arith)

pub loop-k-preserved : goal.loop-k-preserved
loop-k-preserved c =
    let a = c.args in
    let l = c.loop-i in
    from_key a.keys.now a.n (ChosenAt a.versions.now a.masks.now a.base a.ranks a.readers) l.all l.invariant (omega arith)

pub returns : goal.returns
returns c =
    let a = c.args in
    let l = c.loop-k in
    from_all a.keys.now a.n (ChosenAt a.versions.now a.masks.now a.base a.ranks a.readers) l.all l.invariant (omega arith)
