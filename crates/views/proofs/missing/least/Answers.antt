-- `views::missing::least` meets its contract. The outer loop's invariant: nothing is missing at the keys passed; the inner one's: each version that is
-- wanted and lacking at the key is among those that are left. Assumes nothing.
use Rattle.std.proofs.Common.{refl, ap, ◌∙◌, arith, below_more}
use Rattle.state.specs.Answers.{place_of}
use Rattle.views.proofs.Looking.{looking-all, looking-on, looking-done, looking-first, missing-nowhere}
use Rattle.views.proofs.Tests.{taken, left as not_so}
use Rattle.views.proofs.missing.least.Goals as goal
use Rattle.views.proofs.missing.least.Goals.{else-search-test, then-search-test+in-Some+then-wants}

pub search-init : goal.search-init
search-init g c = (refl, λ s u want e kk ro rule l b. absurd (omega arith))

pub loop-v-init : goal.loop-v-init
loop-v-init g c = rw c.into_iter-v-iterator.ensures.into_iter_gives (
  c.search.invariant.0,
  omega arith,
  λ s u want e kk ro rule.
      looking-all s want u _ (c.type_inv.keys _).fits (kk.full _ (omega arith)) (ro _ (omega arith)) c.without.ensures,
)

pub loop-v-preserved : goal.loop-v-preserved
loop-v-preserved g c = (
  c.loop-v.invariant.0,
  c.loop-v.invariant.1,
  λ s u want e kk ro rule.
      looking-on s want u _ (c.loop-v.invariant.2 s u want e kk ro rule) c.in-Some.ensures.steps (λ b. not_so c.if-wants.false (rule _ _ _ b c.wants.ensures)),
)

pub search-preserved : goal.search-preserved
search-preserved g c = (
  c.loop-v.invariant.0,
  λ s u want e kk ro rule.
      below_more _ _ (c.search.invariant.1 s u want e kk ro rule) (looking-done s want u _ (c.loop-v.invariant.2 s u want e kk ro rule) c.in-None.ensures.steps.0),
)

pub returns : goal.returns
returns g c = λ s u want e kk ro rule.
    elim c.search-test.branch [
      | else-search-test w ↦ rw w.found-is (ap place_of c.search.invariant.0 ∙ missing-nowhere s want u _ e (λ l b. c.search.invariant.1 s u want e kk ro rule l (omega (arith, w.search-test))))
      | then-search-test+in-Some+then-wants w ↦
          let given = w.in-Some.ensures.steps in
          rw w.found-is (looking-first s want u _ (w.loop-v.invariant.2 s u want e kk ro rule) given.held given.least (λ b. taken w.if-wants.true (rule _ _ _ b w.wants.ensures)) (omega (arith, w.search-test))
          (c.search.invariant.1 s u want e kk ro rule))
    ]
