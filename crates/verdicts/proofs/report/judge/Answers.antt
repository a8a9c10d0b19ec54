-- `verdicts::report::judge` meets its contract. Assumes nothing.
use mathlib.Core.Path.{◌≡◌, refl, ap, ◌∙◌}
use mathlib.Core.Bool.{not}
use mathlib.Core.List.{List}
use Prim.Native.Nat.{ℕ}
use borrow.Author.Rules.{rules}
use Rattle.store.specs.Store.{Store, View, Commit}
use Rattle.store.specs.Missing.{missing}
use Rattle.store.specs.Refusal.{all_of}
use Rattle.state.specs.Answers.{place_of}
use Rattle.sets.specs.Set.{union, without}
use Rattle.verdicts.specs.AtHand.{Judging, AfterCommit}
use Rattle.verdicts.proofs.Judged.{plain-lost, keys-are, judging, nothing-asked, no-clause-fails}
use Rattle.verdicts.proofs.report.judge.Goals as goal
use Rattle.verdicts.proofs.report.judge.Goals.{After-failing-failing, then-not-plain, else-not-plain}

-- what clause 1 misses, where it was searched for and where not
searched : (c : goal.After-failing-failing) (s : Store) (u : View) (commit : Commit) (values : List ℕ)
    → (let a = c.args in AfterCommit s u commit a.w a.held a.versions.now a.keys.now a.commits.now a.views.now a.fresh.now values a.ranks a.plain a.base a.n a.me.0)
    → place_of c.if-not-plain.lost ≡ missing s (all_of u) commit.view_after
searched c s u commit values b =
    elim c.if-not-plain.branch [
      | then-not-plain w ↦ ap place_of w.lost-is ∙ w.lost-lost.ensures s u commit.view_after (keys-are b) b.made.view b.arrays.in-masks b.masks
      | else-not-plain w ↦ plain-lost b (ap not w.if-not-plain.false) w.lost-is
    ]

-- what is at hand where the clauses were tested
hand : (c : goal.After-failing-failing) (s : Store) (u : View) (commit : Commit) (values : List ℕ)
    → (let a = c.args in AfterCommit s u commit a.w a.held a.versions.now a.keys.now a.commits.now a.views.now a.fresh.now values a.ranks a.plain a.base a.n a.me.0)
    → Judging s u commit (record { seen = c.args.held.before; ranks = c.args.ranks; lost = c.if-not-plain.lost; session = c.insert.result; absent = c.without.result; wanted = c.args.w })
    values c.args.versions.now c.args.keys.now c.args.views.now c.args.fresh.now c.args.base c.args.n
hand c s u commit values b =
    judging b c.if-not-plain.lost (searched c s u commit values b) c.insert.ensures (search rules)
    (c.without.ensures ∙ ap (λ (m : ℕ). without m c.args.held.after) (c.union-writers.ensures ∙ ap (λ (m : ℕ). union m c.args.held.own) c.union.ensures))

pub returns-then-w-eq0 : goal.returns-then-w-eq0
returns-then-w-eq0 c = λ s u commit values fs b a k. no-clause-fails _ s u commit (nothing-asked b c.if-plain.true c.if-w-eq0.true (search rules)) refl fs a k

pub returns-then-failing-eq0 : goal.returns-then-failing-eq0
returns-then-failing-eq0 c = λ s u commit values fs b a k. no-clause-fails _ s u commit (c.failing-failing.ensures s u commit (hand (goal.at.returns-then-failing-eq0 c).After-failing-failing s u commit values b).at-hand) c.if-failing-eq0.true fs a k

pub returns : goal.returns
returns c = λ s u commit values fs b a k.
    let j = hand (goal.at.returns c).After-failing-failing s u commit values b in
    c.note.ensures s u commit values fs j (c.failing-failing.ensures s u commit j.at-hand) a k
