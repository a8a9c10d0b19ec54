-- A piece in the buffer: what stands where. Assumes nothing.
use Prim.Native.Nat.{ℕ, ◌+◌, ◌-◌, ◌<◌, ◌≤◌, min}
use mathlib.Core.Path.{◌≡◌, sym, ap, ◌∙◌}
use mathlib.Core.Logic.{◌⊎◌, inl, inr, ⊎_elim}
use mathlib.Core.List.{List, ◌++◌}
use native.Mathlib.Omega.{arith}
use native.Mathlib.Decide.{dec_lt}
use lib.ListN.{length, get_or, take, drop, length-append, length-take, get_or-append}
use lib.Seq.{get_or-take, get_or-append-add, length-take-le, take_all}
use Rattle.endian.proofs.Put.{put-none, length-put}
use Rattle.pieces.specs.Piece.{room_in, placed}

pub lt-or-le : (a b : ℕ) → (a < b) ⊎ (b ≤ a)
lt-or-le a b = elim (dec_lt a b) [ yes p ↦ inl p | no q ↦ inr (omega arith) ]

-- so many bytes of a list, and no more than it has
pub take-lesser : (n : ℕ) (piece : List ℕ) → take (min n (length piece)) piece ≡ take n piece
take-lesser n piece =
    ⊎_elim
    (λ (l : n < length piece). ap (λ (k : ℕ). take k piece) {x = min n (length piece)} {y = n} (omega arith))
    (λ (l : length piece ≤ n). take_all (min n (length piece)) piece (omega arith) ∙ sym (take_all n piece l))
    (lt-or-le n (length piece))

-- where there is no room the buffer stays
pub placed-none : (kept : List ℕ) (at : ℕ) (piece : List ℕ) → room_in kept ≤ at → kept ≡ placed kept at piece
placed-none kept at piece l = rw (none kept at l) (put-none kept at)
  where
    none : (kept : List ℕ) (at : ℕ) → room_in kept ≤ at → room_in kept - at ≡ 0
    none kept at l = omega arith

module _ (kept : List ℕ) (at : ℕ) (piece : List ℕ) where
  -- what is kept of the piece, and what stands before it and behind it
  abbrev part : List ℕ
  part = take (room_in kept - at) piece

  abbrev front : List ℕ
  front = take at kept

  abbrev back : List ℕ
  back = drop (at + length part) kept

  length_part : length part ≡ min (room_in kept - at) (length piece)
  length_part = length-take (room_in kept - at) piece

  -- before the place
  pub placed-before : (i : ℕ) → i < at → i < length kept → get_or (placed kept at piece) i 0 ≡ get_or kept i 0
  placed-before i l m =
      let long = length-take at kept in
      get_or-append (front ++ part) back 0 i (omega (arith, long, length-append front part))
      ∙ get_or-append front part 0 i (omega (arith, long))
      ∙ get_or-take at kept i 0 l

  -- from the place on
  pub placed-in : (k : ℕ) → k < length piece → at + k < room_in kept → get_or (placed kept at piece) (at + k) 0 ≡ get_or piece k 0
  placed-in k l m =
      let long : length front ≡ at = length-take-le at kept (omega arith) in
      get_or-append (front ++ part) back 0 (at + k) (omega (arith, long, length_part, length-append front part))
      ∙ ap (λ (j : ℕ). get_or (front ++ part) (j + k) 0) (sym long)
      ∙ get_or-append-add front part k 0
      ∙ get_or-take (room_in kept - at) piece k 0 (omega arith)

  -- the buffer stays as long as it was
  pub length-placed : length (placed kept at piece) ≡ length kept
  length-placed =
      ⊎_elim
      (λ (l : at < room_in kept). length-put kept at part (omega (arith, length_part)))
      (λ (l : room_in kept ≤ at). ap length (sym (placed-none kept at piece l)))
      (lt-or-le at (room_in kept))
