-- `reading::shape::keys_fit` meets its contract. The loop's invariant: the keys that were passed fit, and `at` is where they end. Assumes nothing.
use mathlib.Core.Path.{sym, ap, ◌∙◌}
use native.Mathlib.Omega.{arith}
use native.Mathlib.Numerals.{add-one}
use Rattle.store.specs.Reading.{key_place}
use Rattle.reading.specs.Parts.{key_end}
use Rattle.reading.proofs.Keys.{place-next, keys-more}
use Rattle.reading.proofs.shape.keys_fit.Goals as goal

pub loop-preserved : goal.loop-preserved
loop-preserved c =
    let l = c.loop in
    let (e, f) = c.in-Some.ensures in
    let b = c.args.image.now in (
      e ∙ ap (key_end b) l.invariant.0 ∙ sym (place-next b l.counter) ∙ ap (key_place b) (sym (add-one l.counter)),
      omega (arith, e, f.within),
      keys-more _ _ _ l.invariant.0 f l.invariant.2,
    )
