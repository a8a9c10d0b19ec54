-- Lines of words and numbers. Assumes nothing.
use Rattle.std.specs.Prelude.{ℕ, List, [], ◌∷◌, ◌++◌}
use Prim.Native.String.{String}
use Rattle.text.specs.Ascii.{ascii, space, line_feed}
use Rattle.text.specs.Decimal.{decimal}

-- what a line is made of
pub data Piece : Type 0 where
  word : String → Piece
  number : ℕ → Piece

-- a number stands in decimal
abbrev pub piece_text : Piece → List ℕ
piece_text (word w) = ascii w
piece_text (number n) = decimal n

-- a line: its pieces, a space between each two, and a line feed at the end
abbrev pub line : List Piece → List ℕ
line [] = line_feed ∷ []
line (p ∷ []) = piece_text p ++ (line_feed ∷ [])
line (p ∷ (q ∷ ps)) = piece_text p ++ (space ∷ line (q ∷ ps))
