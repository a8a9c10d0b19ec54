-- The bytes that a session has taken: what joins the pieces to the file that the close judges (02, E5). Assumes nothing.
use Rattle.std.specs.Prelude.{ℕ, ◌<◌, ◌≤◌, min, ◌≡◌, List, [], ◌∷◌, ◌++◌, length, get_or}
use Rattle.store.specs.Limits.{max_bytes}
use Rattle.answer.specs.Answer.{image_after}
use Rattle.answer.specs.Demand3.{Demand3}
use Rattle.answer.specs.Recorded.{ImageSays}
use Rattle.judging.specs.Answers.{told_answer}
use Rattle.pieces.specs.declared.Session.{Session}
use Rattle.pieces.specs.Piece.{too_many, room_in, counted, kept_after}
use Rattle.pieces.specs.Close.{close_answer, close_image}

-- the record is open and has taken these bytes: it has their number, and each that there is room for stands at its place in the buffer
pub record Has (bytes : List ℕ) (s : Session) (kept : List ℕ) : Type 0 where
  pub is_open : s.closed ≡ 0
  pub counts : s.total ≡ min (length bytes) too_many
  pub stand : (i : ℕ) → i < length bytes → i < room_in kept → get_or kept i 0 ≡ get_or bytes i 0

-- the buffer has room for these bytes, if they are no more than a file may have
abbrev pub RoomFor : List ℕ → List ℕ → Type 0
RoomFor bytes kept = length bytes ≤ max_bytes → length bytes ≤ length kept

-- what the close judges is the file of these bytes, wherever they were cut: its answer and its image buffer are those of the file, demand 3 holds of it, and
-- its image says its store
abbrev pub JudgesJoined : Session → List ℕ → List ℕ → Type 0
JudgesJoined s kept image =
    (bytes : List ℕ) → Has bytes s kept → RoomFor bytes kept
    → (close_answer s kept (length image) ≡ told_answer bytes (length image)) × (close_image s kept image ≡ image_after bytes image) × Demand3 bytes × ImageSays bytes

-- ---- any pieces, one after the other

-- a record and its buffer
pub record State : Type 0 where
  pub session : Session
  pub kept : List ℕ

abbrev pub after_piece : State → List ℕ → State
after_piece t piece = record { session = counted t.session (length piece); kept = kept_after t.session t.kept piece }

unfoldable pub after_pieces : State → List (List ℕ) → State
after_pieces t [] = t
after_pieces t (piece ∷ ps) = after_pieces (after_piece t piece) ps

-- the bytes of the pieces, joined
unfoldable pub joined : List (List ℕ) → List ℕ
joined [] = []
joined (piece ∷ ps) = piece ++ joined ps
