-- `gathering::writers_seen` meets its contract. The loop's invariant: of the keys that were passed, the writers of the versions that their masks hold are
-- found. Assumes nothing.
use Prim.Native.Nat.{ℕ, ◌+◌, ◌*◌}
use mathlib.Core.Path.{◌≡◌, sym, ap, ◌∙◌}
use native.Mathlib.Numerals.{add-one}
use Rattle.store.specs.Reading.{key_place}
use Rattle.reading.specs.Parts.{key_end}
use Rattle.reading.proofs.Keys.{place-next}
use Rattle.gathering.proofs.Held.{seen_more}
use Rattle.gathering.proofs.writers_seen.Goals as goal

pub loop-k-preserved : goal.loop-k-preserved
loop-k-preserved c =
    let l = c.loop-k in
    let b = c.args.image.now in
    let n = c.u32_at-count.ensures in
    let place : key_place b (l.k + 1) ≡ key_end b (key_place b l.k) = ap (key_place b) (add-one l.k) ∙ place-next b l.k in (
      ap (λ (x : ℕ). l.at + (4 + 16 * x)) n ∙ ap (key_end b) l.invariant.0 ∙ sym place,
      seen_more _ _ _ l.invariant.0 n c.u64_at-mask.ensures c.union-found.ensures l.invariant.1 c.writers_held.ensures,
    )
