-- `views::prefix::split` meets its contract. The sets so far are those of the keys passed. Assumes nothing.
use Rattle.std.proofs.Common.{◌≡◌, arith}
use Rattle.state.proofs.Below.{key_more}
use Rattle.views.proofs.Downward.{HeldAt, LackedAt, later-is, held-is, held_all, lacked-all}
use Rattle.views.proofs.prefix.split.Goals as goal

pub loop-k-preserved : goal.loop-k-preserved
loop-k-preserved c =
    λ s old u masks base seen m good p.
    let x = c.loop-k.invariant s old u masks base seen m good p in
    let l = later-is s old u _ _ _ masks base seen _ m good p _ (omega arith) c.newest_visible.ensures.seen c.up_to.ensures c.without-later.ensures in
    let h = held-is s old u _ _ _ masks base seen _ m good p _ (omega arith) c.newest_visible.ensures.seen c.up_to.ensures c.without-later.ensures c.without.ensures in (
      key_more (HeldAt s old u _ _ _ masks base seen _ m good) _ x.0 _ h c.union-held.ensures,
      key_more (LackedAt s old u _ _ _ masks base seen _ m good) _ x.1 _ l c.union-lacking.ensures,
    )

pub returns : goal.returns
returns c =
    let e : c.loop-k.k ≡ c.args.n = omega arith in
    λ s old u masks base seen m good p.
    let x = c.loop-k.invariant s old u masks base seen m good p in
    (held_all s old u _ _ _ masks base seen _ m good _ (rw e at x.0), lacked-all s old u _ _ _ masks base seen _ m good _ (rw e at x.1))
