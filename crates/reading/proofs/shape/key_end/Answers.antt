-- `reading::shape::key_end` meets its contract. Assumes nothing.
use mathlib.Core.Path.{sym, ◌∙◌}
use native.Mathlib.Omega.{arith}
use Rattle.reading.proofs.Keys.{key_fits, key-opens}
use Rattle.reading.proofs.shape.key_end.Goals as goal

pub returns-then-u64_at-ne0 : goal.returns-then-u64_at-ne0
returns-then-u64_at-ne0 c = λ f. c.if-u64_at-ne0.true (c.u64_at.ensures ∙ key-opens _ _ _ f)

pub returns : goal.returns
returns c =
    let p = c.u32_at-n.ensures in
    (omega arith, key_fits _ _ _ p (omega arith) (omega arith) (sym c.u64_at.ensures ∙ c.if-u64_at-ne0.false) (c.versions_fit.ensures.0 c.if-not-versions_fit.false))
