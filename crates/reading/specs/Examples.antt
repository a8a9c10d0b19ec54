-- An image, and bytes of it changed one at a time, with what code 20 says of each: one table. Assumes nothing.
use Rattle.std.specs.Prelude.{ℕ, Bool, true, false, List, [], ◌∷◌, ◌++◌}

-- one key and two commits of client 0, numbers 0 and 1: the first read version 0 and wrote 7, which the second read
abbrev pub sample : List ℕ
sample =
    -- length 76, keys, commits, two zeros
    (76 ∷ 0 ∷ 0 ∷ 0 ∷ 1 ∷ 2 ∷ 0 ∷ 0 ∷ [])
    -- from 8 and from 24: client, three zeros, number, mask
    ++ (0 ∷ 0 ∷ 0 ∷ 0 ∷ 0 ∷ 0 ∷ 0 ∷ 0 ∷ 1 ∷ 0 ∷ 0 ∷ 0 ∷ 0 ∷ 0 ∷ 0 ∷ 0 ∷ [])
    ++ (0 ∷ 0 ∷ 0 ∷ 0 ∷ 1 ∷ 0 ∷ 0 ∷ 0 ∷ 3 ∷ 0 ∷ 0 ∷ 0 ∷ 0 ∷ 0 ∷ 0 ∷ 0 ∷ [])
    -- from 40: two versions; from 44 and from 60: value, writer, three zeros, readers
    ++ (2 ∷ 0 ∷ 0 ∷ 0 ∷ [])
    ++ (0 ∷ 0 ∷ 0 ∷ 0 ∷ 0 ∷ 0 ∷ 0 ∷ 0 ∷ 2 ∷ 0 ∷ 0 ∷ 0 ∷ 0 ∷ 0 ∷ 0 ∷ 0 ∷ [])
    ++ (7 ∷ 0 ∷ 0 ∷ 0 ∷ 1 ∷ 0 ∷ 0 ∷ 0 ∷ 4 ∷ 0 ∷ 0 ∷ 0 ∷ 0 ∷ 0 ∷ 0 ∷ 0 ∷ [])

-- the byte at a place made another, and whether the bytes are an image then
pub record Change : Type 0 where
  pub place : ℕ
  pub byte : ℕ
  pub shaped : Bool

abbrev to : ℕ → ℕ → Bool → Change
to place byte shaped = record { place = place; byte = byte; shaped = shaped }

abbrev pub changes : List Change
changes =
    -- nothing changed; "Stored masks are not part of this test"; another value, client and number
    to 0 76 true ∷ to 16 255 true ∷ to 60 9 true ∷ to 24 15 true ∷ to 28 5 true
    -- "wrong length or sizes": length, keys, commits, versions
    ∷ to 0 75 false ∷ to 4 0 false ∷ to 4 2 false ∷ to 4 33 false ∷ to 5 1 false ∷ to 5 64 false ∷ to 40 0 false ∷ to 40 1 false ∷ to 40 3 false ∷ to 43 16 false
    -- "client above 15"; "two entries of equal client and number"
    ∷ to 24 16 false ∷ to 28 0 false
    -- "spare not zero"
    ∷ to 6 1 false ∷ to 9 1 false ∷ to 27 1 false ∷ to 49 1 false ∷ to 67 1 false
    -- "version 0 not (0, opening)"
    ∷ to 44 1 false ∷ to 48 1 false
    -- "writer or reader number not among the commits", the opening transaction being none of them
    ∷ to 64 0 false ∷ to 64 3 false ∷ to 68 1 false ∷ to 68 8 false ∷ to 75 128 false
    -- "twice as reader of a key"
    ∷ to 68 2 false ∷ to 52 6 false ∷ []
