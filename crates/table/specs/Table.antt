-- Rows of visibility as text: "each row in decimal on its own line" (02, E14). Assumes nothing.
use Rattle.std.specs.Prelude.{ℕ, ◌+◌, ◌*◌, List, [], ◌∷◌, ◌++◌, leb, length, take}
use Rattle.search.specs.Choose.{need}
use Rattle.text.specs.Lines.{number, line}
use Rattle.text.specs.Put.{most_digits}
use Rattle.store.specs.Limits.{max_commits}

unfoldable pub table_text : List ℕ → List ℕ
table_text [] = []
table_text (r ∷ rs) = line (number r ∷ []) ++ table_text rs

-- a row and its line feed
abbrev pub longest_row : ℕ
longest_row = most_digits + 1

-- 63 rows
abbrev pub longest_table : ℕ
longest_table = longest_row * max_commits

-- the first n rows in so much room, or nothing where they do not fit
unfoldable pub table_in : ℕ → List ℕ → ℕ → List ℕ
table_in room rows n = need (leb longest_table room) [] (need (leb n (length rows)) [] (need (leb n max_commits) [] (table_text (take n rows))))
