-- `paths::add` meets its contract. Assumes nothing.
use native.Mathlib.Omega.{arith}
use Rattle.state.specs.Places.{note_place}
use Rattle.paths.proofs.Added.{added, notes-stay}
use Rattle.paths.proofs.Kept.{links-added}
use Rattle.paths.proofs.add.Goals as goal

pub returns : goal.returns
returns c =
    let b = c.brought-more.ensures in
    let g = added _ _ _ _ _ _ c.requires.1 c.requires.2 c.ranges.over.fits _ _ _ c.requires.0 _ _ c.point.ensures c.bring.ensures _ _ b.0 b.1 c.union.ensures c.union-2.ensures in record { kept = links-added _ _ _ _ _ _ _ _ _ g.0 c.union-first.ensures c.union-into.ensures g.1 g.2; notes = λ part t. notes-stay _ _ _ _ _ _ c.requires.1 c.requires.2 c.ranges.over.fits _ _ _ c.requires.0 _ _ c.point.ensures c.bring.ensures (note_place part t) (omega arith) }
