-- What a piece makes of a session record, and of the buffer that is lent beside it (02, E5). Assumes nothing.
use Rattle.std.specs.Prelude.{ℕ, ◌+◌, ◌-◌, min, Bool, List, eqb, length, take}
use Rattle.search.specs.Choose.{need}
use Rattle.endian.specs.Endian.{put_at}
use Rattle.store.specs.Limits.{max_bytes}
use Rattle.pieces.specs.declared.Session.{Session}

-- a record that is newly opened
abbrev pub opened : Session
opened = record { total = 0; closed = 0 }

-- any other number than 0 says that it is closed
abbrev pub is_open : Session → Bool
is_open s = eqb s.closed 0

-- "bytes past 65,536 are counted as too many": one number stands for all that are too large
abbrev pub too_many : ℕ
too_many = max_bytes + 1

-- "A piece .. after the close gets code 18"; else it "answers only that it was taken"
unfoldable pub piece_code : Session → ℕ
piece_code s = need (is_open s) 18 0

-- the record after a piece of n bytes; a closed one stays
unfoldable pub counted : Session → ℕ → Session
counted s n = need (is_open s) s (record { total = min (s.total + n) too_many; closed = 0 })

-- so many bytes of a file have room in the buffer: "bytes past 65,536 are .. not kept"
abbrev pub room_in : List ℕ → ℕ
room_in kept = min max_bytes (length kept)

-- the buffer with a piece from `at` on, as far as there is room for it
abbrev pub placed : List ℕ → ℕ → List ℕ → List ℕ
placed kept at piece = put_at kept at (take (room_in kept - at) piece)

-- the buffer after a piece, which stands behind the bytes that came before; of a closed session it stays
unfoldable pub kept_after : Session → List ℕ → List ℕ → List ℕ
kept_after s kept piece = need (is_open s) kept (placed kept s.total piece)
