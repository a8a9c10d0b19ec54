-- `views::gathered` meets its contract. The loop's invariant: what it says, of the keys passed. Assumes nothing.
use Rattle.std.proofs.Common.{ℕ, subst, arith}
use Rattle.views.proofs.Tests.{none_more, union-zero}
use Rattle.views.proofs.gathered.Goals as goal

pub loop-k-preserved : goal.loop-k-preserved
loop-k-preserved g c = (
  none_more (λ k. goal.F-post g c.args.word k 0) _ c.loop-k.invariant.0 (λ z. subst (λ (w : ℕ). goal.F-post g c.args.word c.loop-k.k w) z c.word.ensures) c.union-all.ensures,
  λ h. rw c.union-all.ensures ((union-zero _ _).1 (c.loop-k.invariant.1 h, h _ _ (omega arith) c.word.ensures)),
)
