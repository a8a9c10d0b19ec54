-- The line of a refusal: its fields, and what stands behind the last. Assumes nothing.
use Prim.Native.Nat.{ℕ}
use mathlib.Core.Path.{◌≡◌, refl, subst}
use mathlib.Core.List.{List, [], ◌∷◌, ◌++◌}
use Rattle.text.specs.Ascii.{ascii}
use Rattle.text.specs.Decimal.{decimal}
use Rattle.text.specs.Lines.{Piece, word, number, line}
use Rattle.text.specs.Put.{Put}
use Rattle.store.specs.Refusal.{Refusal}
use Rattle.report.specs.Report.{writer_pieces, behind, refusal_line}

fields : (code n key version : ℕ) (end : List Piece)
    → (ascii "refused " ++ decimal code) ++ ((ascii " record " ++ decimal n) ++ ((ascii " key " ++ decimal key) ++ ((ascii " version " ++ decimal version) ++ behind end)))
    ≡ line (word "refused" ∷ number code ∷ word "record" ∷ number n ∷ word "key" ∷ number key ∷ word "version" ∷ number version ∷ end)
fields code n key version [] = refl
fields code n key version (p ∷ end) = refl

pub put-fields : {before after : List ℕ} {at stop : ℕ} (r : Refusal)
    → Put before at ((ascii "refused " ++ decimal r.code) ++ ((ascii " record " ++ decimal r.at_record) ++ ((ascii " key " ++ decimal r.key) ++ ((ascii " version " ++ decimal r.version) ++ behind (writer_pieces r))))) after stop
    → Put before at (refusal_line r) after stop
unfolding refusal_line
put-fields {before} {after} {at} {stop} r p = subst (λ t. Put before at t after stop) (fields r.code r.at_record r.key r.version (writer_pieces r)) p
