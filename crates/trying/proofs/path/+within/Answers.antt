-- `trying::path::within` meets its contract: nobody is within no links, and one link more is one round more. Assumes nothing.
use Rattle.std.proofs.Common.{◌≡◌, ℕ, T, refl, sym, subst}
use Rattle.sets.specs.Set.{has}
use Rattle.relations.specs.Within.{Within}
use Rattle.state.specs.Keeps.{IsSet}
use Rattle.trying.specs.Tries.{StepOf}
use Rattle.trying.specs.Recorded.{recorded}
use Rattle.trying.proofs.Stepped.{none_within, one-more-within}
use Rattle.trying.proofs.path.+within.Goals as goal

pub returns-then-links-eq0 : goal.returns-then-links-eq0
returns-then-links-eq0 t c =
    let a = c.args in
    let none : a.links ≡ 0 = c.if-links-eq0.true in
    λ below. subst (λ (l : ℕ). IsSet 0 (Within (StepOf a.kind (recorded a.versions.now a.keys.now a.commits.now a.n)) (λ q. T (has a.target q)) l)) (sym none) (none_within (StepOf a.kind (recorded a.versions.now a.keys.now a.commits.now a.n)) a.target)

pub returns : goal.returns
returns t c =
    let a = c.args in
    λ below. one-more-within (StepOf a.kind (recorded a.versions.now a.keys.now a.commits.now a.n)) a.target a.links _ c.within-found.result c.union-near.result c.round.result (λ none. c.if-links-eq0.false none) refl (c.within-found.ensures below) c.union-near.ensures (c.round.ensures below) c.union.ensures
