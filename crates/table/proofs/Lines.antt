-- The rows of a table put one behind the other. Assumes nothing.
use Prim.Native.Nat.{ℕ, ◌+◌, ◌<◌}
use mathlib.Core.Path.{◌≡◌, sym, ap, ◌∙◌, subst}
use mathlib.Core.List.{List, [], ◌∷◌, ◌++◌, append_assoc, append-nil}
use native.Mathlib.Numerals.{add-one}
use lib.ListN.{length, get_or, take}
use lib.Seq.{take-suc}
use Rattle.text.specs.Ascii.{line_feed}
use Rattle.text.specs.Decimal.{decimal}
use Rattle.text.specs.Lines.{number, line}
use Rattle.text.specs.Put.{Put}
use Rattle.text.proofs.Put.{put_both}
use Rattle.table.specs.Table.{table_text}

-- the rows, and one more
rows_last : (rows : List ℕ) (r : ℕ) → table_text (rows ++ (r ∷ [])) ≡ table_text rows ++ line (number r ∷ [])
unfolding table_text
rows_last [] r = append-nil (line (number r ∷ []))
rows_last (x ∷ rows) r = ap (λ (t : List ℕ). line (number x ∷ []) ++ t) (rows_last rows r) ∙ sym (append_assoc (line (number x ∷ [])) (table_text rows) (line (number r ∷ [])))

-- a turn of the loop: the digits, and a line feed
pub put-next-row : (rows : List ℕ) (i : ℕ) {before present digits after : List ℕ} {at to end : ℕ} → Put before 0 (table_text (take i rows)) present at → i < length rows
    → Put present at ([] ++ decimal (get_or rows i 0)) digits to → Put digits to (line_feed ∷ []) after end → Put before 0 (table_text (take (i + 1) rows)) after end
put-next-row rows i {before} {after = after} {end = end} p l q f =
    subst (λ (t : List ℕ). Put before 0 t after end)
    (sym (ap (λ (k : ℕ). table_text (take k rows)) (add-one i) ∙ ap table_text (take-suc rows i 0 l) ∙ rows_last (take i rows) (get_or rows i 0))) (put_both p (put_both q f))
