-- `trying::links::starts` meets its contract. The loops' invariant: no link starts at one of the versions passed. Assumes nothing.
use mathlib.Core.Logic.{⊎_elim}
use native.Mathlib.Omega.{arith}
use Rattle.search.proofs.Tests.{false-T}
use Rattle.trying.specs.Tries.{StartsAt}
use Rattle.trying.proofs.Passing.{passed-turn}
use Rattle.trying.proofs.links.starts.Goals as goal

pub loop-i-preserved : goal.loop-i-preserved
loop-i-preserved c p =
    let a = c.args in
    let l = c.loop-i in
    ⊎_elim l.invariant (λ x. false-T _ c.if-starts_at.false (c.starts_at.ensures.1 x)) ((passed-turn a.keys.now a.n (StartsAt a.versions.now a.keys.now a.ends a.a.0) c.loop-k.k l.i (omega arith) (omega arith)).0 p)
