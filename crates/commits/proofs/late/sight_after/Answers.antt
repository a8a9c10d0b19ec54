-- `commits::late::sight_after` meets its contract. Assumes nothing.
use Rattle.std.proofs.Common.{ℕ, ◌≡◌, sym, ap, subst, ◌∙◌, List, Err, rules}
use Rattle.search.proofs.Tests.{true-T}
use Rattle.store.specs.Store.{Configuration, Commit}
use Rattle.store.specs.Update.{view_before, store_after}
use Rattle.store.specs.Refusal.{stray}
use Rattle.state.specs.Answers.{key_of}
use Rattle.shifts.specs.Outcomes.{SightSays}
use Rattle.commits.specs.Codes.{LateGiven}
use Rattle.commits.proofs.Cases.{late-bad, late-stray, late-none, late-masks}
use Rattle.commits.proofs.OwnOnly.{own-not-refused, own-seen}
use Rattle.commits.proofs.late.sight_after.Goals as goal
use Rattle.commits.proofs.late.sight_after.Goals.{After-sight, After-stray}

said : (c : goal.After-sight) (g : Configuration) (e : Commit) (values : List ℕ) (me : ℕ) → (let a = c.args in LateGiven g e values a.versions.now a.keys.now a.fresh.now a.views.now a.seen.now a.client a.ranks a.n me)
    → SightSays c.args.number (store_after g e) e.view_after c.sight.result
said c g e values me h = c.sight.ensures (store_after g e) (view_before g e) e.view_after (late-masks h c.requires.2)

stray-is : (c : goal.After-stray) (g : Configuration) (e : Commit) (values : List ℕ) (me : ℕ) → (let a = c.args in LateGiven g e values a.versions.now a.keys.now a.fresh.now a.views.now a.seen.now a.client a.ranks a.n me)
    → key_of c.stray.result ≡ stray g.store (view_before g e) e
stray-is c g e values me h =
    c.stray.ensures g.store (view_before g e) e values h.keys-are (late-masks h c.requires.2).arrays.in-masks h.in-fresh h.operations

pub returns-then-plain : goal.returns-then-plain
returns-then-plain c = λ g e values me h adds own.
    let plain = adds (true-T _ c.if-plain.true) in
    (own-not-refused h plain _, own-seen h plain c.requires.2 _ own c.union.ensures)

pub returns-in-Some : goal.returns-in-Some
returns-in-Some c =
    λ g e values me h adds own.
    late-stray _ g e (subst (SightSays _ (store_after g e) e.view_after) c.in_ok-held.was (said (goal.at.returns-in-Some c).After-sight g e values me h)).0
    (sym (stray-is (goal.at.returns-in-Some c).After-stray g e values me h) ∙ ap key_of c.in-Some.is) c.of_key.ensures

pub returns-in_err-held : goal.returns-in_err-held
returns-in_err-held c =
    let handed : c.from_residual.result ≡ Err c.in_err-held.field-0.0 = search rules in
    rw handed (λ g e values me h adds own.
    late-bad _ g e (subst (SightSays _ (store_after g e) e.view_after) c.in_err-held.was (said (goal.at.returns-in_err-held c).After-sight g e values me h)))

pub returns : goal.returns
returns c =
    λ g e values me h adds own.
    let x = subst (SightSays _ (store_after g e) e.view_after) c.in_ok-held.was (said (goal.at.returns c).After-sight g e values me h) in
    (late-none _ g e x.0 (sym (stray-is (goal.at.returns c).After-stray g e values me h) ∙ ap key_of c.in_default.is), x.1)
