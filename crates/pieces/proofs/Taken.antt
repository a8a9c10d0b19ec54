-- A record that was opened and changed by pieces alone has taken their bytes, wherever they were cut. Assumes nothing.
use Prim.Native.Nat.{ℕ, ◌+◌, ◌-◌, ◌<◌, ◌≤◌, min}
use mathlib.Core.Path.{◌≡◌, refl, sym, ap, ◌∙◌}
use mathlib.Core.Logic.{⊎_elim}
use mathlib.Core.List.{List, [], ◌∷◌, ◌++◌, append_assoc, append-nil}
use native.Mathlib.Omega.{arith}
use lib.ListN.{length, get_or, take, length-append, get_or-append}
use lib.Seq.{get_or-take, get_or-append-add, ext_get_or, length-take-le}
use Rattle.search.specs.Choose.{need}
use Rattle.search.proofs.Choose.{need-ind}
use Rattle.store.specs.Limits.{max_bytes}
use Rattle.pieces.specs.declared.Session.{Session}
use Rattle.pieces.specs.Piece.{opened, too_many, room_in, counted, placed, kept_after}
use Rattle.pieces.specs.Has.{Has, State, after_piece, after_pieces, joined}
use Rattle.pieces.proofs.Placed.{lt-or-le, placed-before, placed-in, length-placed}

-- a new record has taken nothing
pub has-opened : (kept : List ℕ) → Has [] opened kept
has-opened kept = record { is_open = refl; counts = refl; stand = λ i l m. absurd (omega arith) }

-- a piece leaves an open record open, with its bytes counted
pub counted-open : (s : Session) (n : ℕ) → s.closed ≡ 0 → ((counted s n).closed ≡ 0) × ((counted s n).total ≡ min (s.total + n) too_many)
unfolding counted need
counted-open s n o = rw o (refl, refl)

-- a byte of what came before the piece, and one of the piece
placed-stand : (bytes kept piece : List ℕ) (at : ℕ) → at ≡ min (length bytes) too_many
    → ((i : ℕ) → i < length bytes → i < room_in kept → get_or kept i 0 ≡ get_or bytes i 0)
    → (i : ℕ) → i < length bytes + length piece → i < room_in kept → get_or (placed kept at piece) i 0 ≡ get_or (bytes ++ piece) i 0
placed-stand bytes kept piece at e stand i l m =
    ⊎_elim
    (λ (o : i < length bytes).
    placed-before kept at piece i (omega arith) (omega arith) ∙ stand i o m ∙ sym (get_or-append bytes piece 0 i o))
    (λ (o : length bytes ≤ i).
    let k = i - length bytes in
    let here : at + k ≡ i = omega arith in
    let there : length bytes + k ≡ i = omega arith in
    let seam : get_or (bytes ++ piece) i 0 ≡ get_or piece k 0 = ap (λ (j : ℕ). get_or (bytes ++ piece) j 0) (sym there) ∙ get_or-append-add bytes piece k 0 in
    ap (λ (j : ℕ). get_or (placed kept at piece) j 0) (sym here) ∙ placed-in kept at piece k (omega arith) (omega arith) ∙ sym seam)
    (lt-or-le i (length bytes))

-- after a piece a record has taken its bytes behind those before
pub has-piece : (bytes : List ℕ) (s : Session) (kept piece : List ℕ) → Has bytes s kept → Has (bytes ++ piece) (counted s (length piece)) (kept_after s kept piece)
unfolding counted kept_after need
has-piece bytes s kept piece h =
    let long = length-append bytes piece in
    rw h.is_open (record {
      is_open = refl;
      counts = omega (arith, h.counts, long);
      stand = λ i l m. placed-stand bytes kept piece s.total h.counts h.stand i (omega (arith, long)) (omega (arith, length-placed kept s.total piece));
    })

-- the same, of what a call leaves
pub has-pushed : (s : Session) (kept piece : List ℕ) {s' : Session} {kept' : List ℕ} → s' ≡ counted s (length piece) → kept' ≡ kept_after s kept piece
    → (bytes : List ℕ) → Has bytes s kept → Has (bytes ++ piece) s' kept'
has-pushed s kept piece e f bytes h = rw (e, f) (has-piece bytes s kept piece h)

-- after any pieces it has taken them all, joined
pub has-pieces : (bytes : List ℕ) (t : State) (ps : List (List ℕ)) → Has bytes t.session t.kept
    → Has (bytes ++ joined ps) (after_pieces t ps).session (after_pieces t ps).kept
unfolding after_pieces joined
has-pieces bytes t [] h = rw (append-nil bytes) h
has-pieces bytes t (piece ∷ ps) h = rw (← append_assoc bytes piece (joined ps)) (has-pieces (bytes ++ piece) (after_piece t piece) ps (has-piece bytes t.session t.kept piece h))

-- and the buffer is as long as it was
length-kept : (s : Session) (kept piece : List ℕ) → length (kept_after s kept piece) ≡ length kept
unfolding kept_after
length-kept s kept piece = need-ind (λ (l : List ℕ). length l ≡ length kept) _ _ _ refl (λ _. length-placed kept s.total piece)

pub length-pieces : (t : State) (ps : List (List ℕ)) → length (after_pieces t ps).kept ≡ length t.kept
unfolding after_pieces
length-pieces t [] = refl
length-pieces t (piece ∷ ps) = length-pieces (after_piece t piece) ps ∙ length-kept t.session t.kept piece

-- ---- what the close finds

-- of bytes that are no more than a file may have, and that the buffer has room for: their number, and themselves at the start of the buffer
pub has_within : (bytes : List ℕ) (s : Session) (kept : List ℕ) → Has bytes s kept → length bytes ≤ max_bytes → length bytes ≤ length kept
    → (s.total ≡ length bytes) × (take s.total kept ≡ bytes)
has_within bytes s kept h l m =
    let e : s.total ≡ length bytes = omega (arith, h.counts) in
    let long = length-take-le (length bytes) kept m in (
      e,
      ap (λ (n : ℕ). take n kept) e ∙ ext_get_or 0 (take (length bytes) kept) bytes long
          (λ i o. get_or-take (length bytes) kept i 0 (omega arith) ∙ h.stand i (omega arith) (omega arith)),
    )

-- of more bytes, that they are too many
pub has-beyond : (bytes : List ℕ) (s : Session) (kept : List ℕ) → Has bytes s kept → max_bytes < length bytes → max_bytes < s.total
has-beyond bytes s kept h l = omega (arith, h.counts)
