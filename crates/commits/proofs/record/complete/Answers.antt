-- `commits::record::complete` meets its contract. Assumes nothing.
use Rattle.std.proofs.Common.{ℕ, ◌≡◌, refl, sym, ap, ◌∙◌, Ok, Err, arith, rules}
use Rattle.store.specs.Store.{Configuration, Commit}
use Rattle.store.specs.Update.{view_before, store_after}
use Rattle.search.specs.Choose.{map_some}
use Rattle.store.specs.Refusal.{refuse_read, wrong_read}
use Rattle.state.specs.Answers.{sighting_of}
use Rattle.making.specs.Commits.{MadeIn}
use Rattle.shifts.specs.Outcomes.{outcome_of}
use Rattle.shifts.proofs.Refused.{not_taken}
use Rattle.commits.specs.Records.{Ready}
use Rattle.commits.proofs.Completed.{plain-is, before-commit, commit-given, late-given, judge-given, kept-after}
use Rattle.commits.proofs.Turns.{read-answered, none-wrong, refused-read, answered-late}
use Rattle.commits.proofs.record.complete.Goals as goal
use Rattle.commits.proofs.record.complete.Goals.{After-make}

-- what is said of the making
said : (c : goal.After-make) (g : Configuration) (e : Commit) (clients : ℕ) → let a = c.args in
    Ready g e clients a.client a.session a.ranks a.n a.me.0 a.versions.now a.keys.now a.views.now a.seen.now a.sessions.now a.commits.now a.links.now a.values.now a.fresh.now
    → (sighting_of c.make.result ≡ wrong_read g.store (view_before g e) e)
    × (c.make.result ≡ Ok tt → MadeIn (store_after g e) c.make.new.versions c.make.new.keys c.make.new.sessions c.make.new.commits c.make.new.links)
said c g e clients ready =
    let keeps = ready.recorded.keeps in
    let follows = c.wanted_by-tried.ensures.kept g.store ready.recorded.keys-are ready.number_is keeps.in-links in
    c.make.ensures g.store (view_before g e) e (commit-given ready) ready.number_is ready.session-is keeps.in-commits follows

pub make-requires : goal.make-requires
make-requires c =
    let p = c.requires in
    let room = p.room in record { n_le_max_keys = (p.le_n.1, p.le_n.2, p.le_n.3, room.of-versions, room.of-keys, room.of-views); sessions_room = (room.of-sessions, room.of-commits, omega (arith, room.of-links), p.le_n.4) }

pub returns-in_err-map_err : goal.returns-in_err-map_err
returns-in_err-map_err c =
    let handed : c.from_residual.result ≡ Err c.in_err-map_err.field-0.0 = search rules in
    rw handed (λ g e clients fs ready verdicts. record {
      answer = refused-read _ g e ready.new-number
          (sym (ap outcome_of c.in_err-map_err.was) ∙ read-answered _ _ _ c.map_err.ensures.cases (λ w a learnt. search rules) ∙ ap (map_some (refuse_read _)) (said (goal.at.returns-in_err-map_err c).After-make g e clients ready).0);
      small = ready.operations.value-fits;
      kept = not_taken _ refl;
    })

pub overflow_mul-client-2 : goal.overflow_mul-client-2
overflow_mul-client-2 c = let p = c.requires.le_n.2 in record { fits = omega arith }

pub adds_own-plain-requires : goal.adds_own-plain-requires
adds_own-plain-requires c =
    let p = c.requires in
    let client = p.le_n.2 in
    (p.le_n.1, p.le_n.5, omega (arith, p.room.of-views), omega arith, p.le_n.3)

pub late-requires : goal.late-requires
late-requires c =
    let p = c.requires in
    let n = p.le_n in
    (n.0, n.1, n.2, n.3, omega arith, omega arith, omega arith, n.5, p.room.of-views, p.room.of-seen, n.6)

pub returns : goal.returns
returns c =
    let told = none-wrong _ _ _ c.map_err.ensures.cases (ap outcome_of c.in_ok-map_err.was) in
    let wanted = c.wanted_by-tried in
    let added = c.adds_own-plain in
    λ g e clients fs ready verdicts.
    let x = said (goal.at.returns c).After-make g e clients ready in
    let kept = x.1 told in
    let adds = plain-is ready kept added.result added.ensures in
    let found = wanted.ensures.set g.store (view_before g e) e c.args.values.now (before-commit ready) in
    let says = c.late.ensures g e c.args.values.now fs (late-given ready kept) (judge-given ready kept _ _ adds found wanted.ensures.asked) verdicts in
    record {
      answer = answered-late _ g e ready.new-number (sym (ap sighting_of told) ∙ x.0) _ says.0;
      small = ready.operations.value-fits;
      kept = λ taken. let x = says.1 taken in (kept-after ready kept x.0, x.1);
    }
