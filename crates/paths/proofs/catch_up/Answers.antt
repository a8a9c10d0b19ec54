-- `paths::catch_up` meets its contract. The loop's invariant: the links are entered up to the last commit, for every store that the array follows. Assumes nothing.
use Prim.Native.Nat.{◌-◌}
use mathlib.Core.Path.{◌≡◌, ◌∙◌}
use native.Mathlib.Omega.{arith}
use Rattle.paths.proofs.Noted.{entered-more, entered_all}
use Rattle.paths.proofs.catch_up.Goals as goal

pub loop-last-preserved : goal.loop-last-preserved
loop-last-preserved c s k e f =
    let called = c.enter in entered-more _ _ _ _ s k (omega (arith, c.loop-last-test.true)) called.ensures.kept called.ensures.notes (c.loop-last.invariant s k e f)

pub returns : goal.returns
returns c s k e f =
    let l = c.loop-last in let end : s.commits ≡ c.args.me.0 - 1 = omega arith in entered_all _ s _ _ (l.auto.links ∙ c.requires.0) end c.loop-last-test.false (l.invariant s k end f)
