-- `pieces::take` meets its contract. Assumes nothing.
use Prim.Native.Nat.{ℕ}
use mathlib.Core.Path.{refl, ap}
use Rattle.search.proofs.Steps.{tests, need-met, need-unmet}
use Rattle.pieces.specs.Piece.{piece_code, counted, kept_after}
use Rattle.pieces.proofs.take.Goals as goal

pub returns-then-was-ne0 : goal.returns-then-was-ne0
unfolding piece_code counted kept_after
returns-then-was-ne0 c = (need-unmet _ _ _ (omega tests), need-unmet _ _ _ (omega tests), need-unmet _ _ _ (omega tests))

pub returns : goal.returns
unfolding piece_code counted kept_after
returns c = (
  need-met _ _ _ (omega tests) (ap (λ (n : ℕ). record { total = n; closed = 0 }) c.count.ensures),
  need-met _ _ _ (omega tests) refl,
  need-met _ _ _ (omega tests) c.keep.ensures,
)
