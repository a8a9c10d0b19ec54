-- `making::make` meets its contract: what each part promises, joined. Assumes nothing.
use Rattle.std.proofs.Common.{ℕ, ◌≡◌, sym, ap, subst, rules, Err}
use Rattle.search.proofs.Tests.{some-none}
use Rattle.store.specs.Store.{View, Store, Commit}
use Rattle.growth.specs.Links.{FromSession}
use Rattle.state.specs.Answers.{sighting_of}
use Rattle.state.specs.Keeps.{IsSet}
use Rattle.operations.specs.Answers.{LinkedSays}
use Rattle.making.specs.Commits.{CommitGiven}
use Rattle.making.proofs.Operating.{operates-is}
use Rattle.making.proofs.LedBy.{as-given, led-before}
use Rattle.making.proofs.make.Goals as goal
use Rattle.making.proofs.make.Goals.{After-perform}

-- ---- a place on the way, and what is known there

-- what is said of the operations
said : (c : goal.After-perform) (s : Store) (u : View) (k : Commit) → let a = c.args in
    CommitGiven s u k a.versions.now a.keys.now a.views.now a.sessions.now a.values.now a.client a.ranks a.n
    → LinkedSays s u k a.me.0 c.perform.new.versions c.perform.new.keys c.perform.result
said c s u k g =
    let a = c.args in
    c.perform.ensures s u k (as-given s u k a.versions.now a.keys.now a.views.now a.sessions.now a.values.now a.client a.ranks a.n g) g.in-keys

pub settle-requires : goal.settle-requires
settle-requires c =
    let p = c.requires in
    (p.sessions_room.0, p.sessions_room.1, p.n_le_max_keys.1, p.n_le_max_keys.2)

pub returns-in_err-linked : goal.returns-in_err-linked
returns-in_err-linked c =
    let handed : c.from_residual.result ≡ Err c.in_err-linked.field-0.0 = search rules in rw handed (λ s u k g number session in-commits in-links. (
      subst (LinkedSays s u k _ _ _) c.in_err-linked.was (said (goal.at.returns-in_err-linked c).After-perform s u k g),
      λ e. some-none (ap sighting_of e),
    ))

pub returns : goal.returns
returns c =
    let a = c.args in
    λ s u k g number session in-commits in-links.
    let (none, performed, links) = subst (LinkedSays s u k _ _ _) c.in_ok-linked.was (said (goal.at.returns c).After-perform s u k g) in
    let kept = performed (sym number) in
    let linked = links g.ordered in
    let before = subst (λ (m : ℕ). IsSet m (FromSession s k)) (sym c.before_of-before.ensures)
    (led-before s u k a.versions.now a.keys.now a.views.now a.sessions.now a.values.now a.client a.ranks a.n g c.requires.n_le_max_keys.1 c.ranges.ranks.fits) in
    let busy = operates-is k a.ranks a.values.now g.operations c.ranges.ranks.fits in
    let settled = c.settle.ensures in (
      none,
      λ _. record {
        in-versions = kept.0;
        in-keys = kept.1;
        in-sessions = settled.sessions s u k g.made number g.client-is session busy linked.0 g.in-sessions;
        in-commits = settled.commits s u k g.made number g.client-is session busy linked.0 g.in-sessions in-commits;
        in-links = c.note.ensures s u k a.values.now g.made number g.operations before linked.0 linked.1 linked.2 in-links;
      },
    )
