-- `reading::linking::keys_links` meets its contract. The loop's invariant: the keys that were passed have their links. Assumes nothing.
use Prim.Native.Nat.{ℕ, ◌+◌, ◌*◌}
use mathlib.Core.Path.{◌≡◌, sym, ap, ◌∙◌}
use native.Mathlib.Numerals.{add-one}
use Rattle.store.specs.Reading.{key_place}
use Rattle.reading.specs.Parts.{key_end}
use Rattle.reading.proofs.Keys.{place-next}
use Rattle.reading.proofs.Passing.{keys-more}
use Rattle.reading.proofs.linking.keys_links.Goals as goal

pub loop-preserved : goal.loop-preserved
loop-preserved c =
    let l = c.loop in
    let b = c.args.image.now in
    let n = c.u32_at-count.ensures in
    let place : key_place b (l.counter + 1) ≡ key_end b (key_place b l.counter) = ap (key_place b) (add-one l.counter) ∙ place-next b l.counter in
    (ap (λ (x : ℕ). l.at + (4 + 16 * x)) n ∙ ap (key_end b) l.invariant.0 ∙ sym place, keys-more _ _ l.invariant.0 n l.invariant.1 c.key_links.ensures)
