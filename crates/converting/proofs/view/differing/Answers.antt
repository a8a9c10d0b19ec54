-- `converting::view::differing` meets its contract. The loop's invariant: the set is of the keys passed at which the views differ. Assumes nothing.
use Prim.Native.Nat.{◌<◌}
use mathlib.Core.Path.{sym, ◌∙◌}
use native.Mathlib.Omega.{arith}
use lib.Seq.{length-take-le}
use Rattle.std.proofs.lemmas.List.{get_or-take}
use Rattle.converting.proofs.Differing.{changed-none, changed-here, changed-not}
use Rattle.converting.proofs.view.differing.Goals as goal
use Rattle.converting.proofs.view.differing.Goals.{then-mask-views, else-mask-views}

pub loop-k-init : goal.loop-k-init
loop-k-init c = λ before u row own. changed-none before u

pub loop-k-preserved : goal.loop-k-preserved
loop-k-preserved c =
    let l = c.loop-k in
    let a = c.args in
    let fresh = a.fresh.now in
    let below : l.k < a.n = omega (arith, length-take-le a.n fresh (omega arith)) in
    let mask = get_or-take a.n fresh l.k 0 below in
    λ before u row own.
    elim c.if-mask-views.branch [
      | then-mask-views w ↦
          changed-here a.n a.base a.views.now fresh below before u row own (λ e. w.if-mask-views.true (mask ∙ e)) (l.invariant before u row own) (w.listed-is ∙ w.insert-listed.ensures)
      | else-mask-views w ↦
          changed-not a.n a.base a.views.now fresh below before u row own (sym mask ∙ w.if-mask-views.false) (l.invariant before u row own) w.listed-is
    ]
