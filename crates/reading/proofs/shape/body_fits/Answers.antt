-- `reading::shape::body_fits` meets its contract. Assumes nothing.
use Prim.Native.Nat.{ℕ}
use mathlib.Core.Path.{ap, ◌∙◌}
use native.Mathlib.Omega.{arith}
use native.Mathlib.Numerals.{add-one}
use Rattle.sets.specs.Set.{below, without}
use Rattle.reading.proofs.Answers.{refused}
use Rattle.reading.proofs.Keys.{start_is, body-long}
use Rattle.reading.proofs.shape.body_fits.Goals as goal

pub returns-then-image-start : goal.returns-then-image-start
returns-then-image-start c = refused (λ h. let l = body-long _ _ _ c.requires.0 c.requires.1 h in absurd (omega arith))

pub keys_fit-requires : goal.keys_fit-requires
keys_fit-requires c =
    let a = c.args in
    (omega arith, c.without.ensures ∙ ap (λ (m : ℕ). without m 1) (c.below.ensures ∙ ap below (add-one a.count)), start_is _ _ _ c.requires.0 c.requires.1, omega arith, omega arith)
