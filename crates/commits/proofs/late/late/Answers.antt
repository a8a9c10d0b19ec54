-- `commits::late::late` meets its contract. Assumes nothing.
use Rattle.std.proofs.Common.{ℕ, ◌≡◌, refl, subst, List, Err, arith, rules}
use Rattle.store.specs.Store.{Configuration, Commit}
use Rattle.store.specs.Update.{view_before}
use Rattle.growth.specs.Made.{Writes}
use Rattle.state.specs.Keeps.{IsSet}
use Rattle.shifts.proofs.Refused.{not_taken}
use Rattle.commits.specs.Codes.{LateGiven, AfterSays, JudgeGiven}
use Rattle.commits.proofs.Cases.{late-kept, judged-after, noted}
use Rattle.commits.proofs.late.late.Goals as goal
use Rattle.commits.proofs.late.late.Goals.{After-own_number-own, After-sight_after}

-- the commit's own number
own_is : (c : goal.After-own_number-own) (g : Configuration) (e : Commit) (values : List ℕ)
    → (let a = c.args in LateGiven g e values a.versions.now a.keys.now a.fresh.now a.views.now a.seen.now a.client a.ranks a.n a.me.0)
    → IsSet c.own_number-own.result (λ t. (t ≡ c.args.me.0) × Writes e)
own_is c g e values h = c.own_number-own.ensures e values h.operations (λ k w. omega (arith, h.made.fits.write-keys k w, h.keys-are))

-- what is said of the view after
said : (c : goal.After-sight_after) (g : Configuration) (e : Commit) (values : List ℕ)
    → (let a = c.args in LateGiven g e values a.versions.now a.keys.now a.fresh.now a.views.now a.seen.now a.client a.ranks a.n a.me.0)
    → (let a = c.args in JudgeGiven g e a.tried a.plain a.commits.now a.verdicts.now)
    → (own : IsSet c.own_number-own.result (λ t. (t ≡ c.args.me.0) × Writes e))
    → AfterSays c.args.number g e c.sight_after.result
said c g e values h j own = c.sight_after.ensures g e values _ h j.adds-own own

pub offset_bounds-seen-client : goal.offset_bounds-seen-client
offset_bounds-seen-client c = let l = c.requires.2 in search rules

pub bounds-seen-client : goal.bounds-seen-client
bounds-seen-client c = let l = c.requires.2 in let room = c.requires.9 in search rules

pub returns-in_err-after : goal.returns-in_err-after
returns-in_err-after c =
    let handed : c.from_residual.result ≡ Err c.in_err-after.field-0.0 = search rules in
    rw handed (λ g e values fs h j k. (
      subst (AfterSays _ g e) c.in_err-after.was (said (goal.at.returns-in_err-after c).After-sight_after g e values h j (own_is (goal.at.returns-in_err-after c).After-own_number-own g e values h)),
      not_taken _ refl,
    ))

pub returns : goal.returns
returns c =
    let p = c.requires in
    λ g e values fs h j k.
    let x = subst (AfterSays _ g e) c.in_ok-after.was (said (goal.at.returns c).After-sight_after g e values h j (own_is (goal.at.returns c).After-own_number-own g e values h)) in (
      x.0,
      λ taken. (
        late-kept h p.2 p.1 _ c.store_and_keep.ensures x.1,
        noted g e _ fs (c.judge_by.ensures g.store (view_before g e) e values fs (judged-after h p.2 _ j (own_is (goal.at.returns c).After-own_number-own g e values h) x) j.asked k),
      ),
    )
