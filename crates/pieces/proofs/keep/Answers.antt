-- `pieces::keep` meets its contract. Assumes nothing.
use Prim.Native.Nat.{ℕ, ◌-◌, min}
use mathlib.Core.Path.{sym, ap, ◌∙◌}
use native.Mathlib.Omega.{arith}
use lib.ListN.{length, take, length-take}
use lib.Seq.{length-take-le}
use Rattle.endian.specs.Endian.{put_at}
use Rattle.pieces.specs.Piece.{room_in}
use Rattle.pieces.proofs.Placed.{take-lesser, placed-none}
use Rattle.pieces.proofs.keep.Goals as goal

pub returns-then-room-at : goal.returns-then-room-at
returns-then-room-at c =
    placed-none c.args.kept.now c.args.at c.args.piece.now (omega (arith, c.min-room.ensures))

pub slice_bounds-put_bytes-end : goal.slice_bounds-put_bytes-end
slice_bounds-put_bytes-end c = sym (length-take-le _ _ (omega (arith, c.min-n.ensures)))

pub put_bytes-requires : goal.put_bytes-requires
put_bytes-requires c =
    let n = c.min-n in
    omega (arith, length-take n.result c.args.piece.now, n.ensures, c.min-room.ensures)

pub returns : goal.returns
returns c =
    let part = ap (λ (n : ℕ). take n c.args.piece.now) (c.min-n.ensures ∙ ap (λ (r : ℕ). min (r - c.args.at) (length c.args.piece.now)) c.min-room.ensures) in
    c.put_bytes.ensures.stands ∙ ap (put_at c.args.kept.now c.args.at) (part ∙ take-lesser (room_in c.args.kept.now - c.args.at) c.args.piece.now)
