-- `shifts::shift::shift_on` meets its contract. Assumes nothing.
use Rattle.std.proofs.Common.{◌*◌, ◌≡◌, refl, sym, ap, subst, ◌∙◌, get_or, Err, arith, rules}
use Rattle.search.proofs.Tests.{true-T}
use Rattle.store.specs.Limits.{max_keys}
use Rattle.store.specs.Store.{View, Configuration}
use Rattle.store.specs.Missing.{missing}
use Rattle.store.specs.Refusal.{all_of}
use Rattle.state.specs.Answers.{place_of}
use Rattle.state.specs.Keeps.{KeepsMasks}
use Rattle.views.specs.Viewed.{NewMasks}
use Rattle.shifts.specs.Outcomes.{SightSays, ShiftGiven}
use Rattle.shifts.proofs.Replaced.{shift-replaces}
use Rattle.shifts.proofs.Refused.{refused-masks, refused-12, not-refused, not_taken, masks-given}
use Rattle.shifts.proofs.shift.shift_on.Goals as goal
use Rattle.shifts.proofs.shift.shift_on.Goals.{After-lost, After-sight}

-- ---- places on the way

-- what is given, from where the masks were tested
abbrev Given : After-sight → Configuration → View → Type 0
Given c g u = let a = c.args in ShiftGiven g u a.n a.versions.now a.keys.now a.views.now a.seen.now × KeepsMasks a.n u a.fresh.now

given-masks : (c : After-sight) (g : Configuration) (u : View) → Given c g u → let a = c.args in
    NewMasks g.store (g.views a.client) u a.n a.versions.now a.keys.now a.views.now (max_keys * a.client) (get_or a.seen.now a.client 0) a.fresh.now
given-masks c g u (h, f) = masks-given g u _ _ _ _ _ _ _ (omega (arith, c.requires.le_n)) h f

said : (c : After-sight) (g : Configuration) (u : View) → Given c g u → SightSays c.args.number g.store u c.sight.result
said c g u h = c.sight.ensures g.store (g.views _) u (given-masks c g u h)

-- they were found to hold all versions of the client's view, or not
lost-is : (c : After-lost) (g : Configuration) (u : View)
    → (let a = c.args in ShiftGiven g u a.n a.versions.now a.keys.now a.views.now a.seen.now × KeepsMasks a.n u a.fresh.now)
    → place_of c.lost.result ≡ missing g.store (all_of (g.views c.args.client)) u
lost-is c g u (h, f) =
    let given = masks-given g u _ _ _ _ _ _ _ (omega (arith, c.requires.le_n)) h f in
    c.lost.ensures g.store (g.views _) u h.keys-are (h.sound.views _) given.arrays.in-masks f

pub whole_store-requires : goal.whole_store-requires
whole_store-requires c = record { n_le_max_keys = omega arith; by_index = c.same.ensures.0 (true-T _ c.if-same.true) }

pub returns-then-same : goal.returns-then-same
returns-then-same c = record {
  answer = λ g u h f. c.whole_store.ensures.answer g u _ _ h f;
  kept = λ g u h f. c.whole_store.ensures.kept g u _ h f;
}

pub returns-in-Some : goal.returns-in-Some
returns-in-Some c = record {
  answer = λ g u h f.
      refused-12 _ g _ u (subst (SightSays _ g.store u) c.in_ok-held.was (said (goal.at.returns-in-Some c).After-sight g u (h, f))).0
      (sym (lost-is (goal.at.returns-in-Some c).After-lost g u (h, f)) ∙ ap place_of c.in-Some.is) c.of_version.ensures;
  kept = λ g u h f. not_taken _ refl;
}

pub returns-in_err-held : goal.returns-in_err-held
returns-in_err-held c =
    let handed : c.from_residual.result ≡ Err c.in_err-held.field-0.0 = search rules in rw handed (record {
      answer = λ g u h f. refused-masks _ g _ u (subst (SightSays _ g.store u) c.in_err-held.was (said (goal.at.returns-in_err-held c).After-sight g u (h, f)));
      kept = λ g u h f. not_taken _ refl;
    })

pub returns : goal.returns
returns c =
    let at = (goal.at.returns c).After-sight in
    let small = c.requires.le_n in record {
      answer = λ g u h f. not-refused _ g _ u (subst (SightSays _ g.store u) c.in_ok-held.was (said at g u (h, f))).0 (sym (lost-is (goal.at.returns c).After-lost g u (h, f)) ∙ ap place_of c.in_default.is);
      kept = λ g u h f e. shift-replaces g _ u _ (omega (arith, small)) h.keys-are (omega (arith, small)) _ _ _ _ _ h.in-views f c.keep.ensures (subst (SightSays _ g.store u) c.in_ok-held.was (said at g u (h, f))).1;
    }
