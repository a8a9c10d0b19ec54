-- The lines of the verdicts, put one behind the other. Assumes nothing.
use Prim.Native.Nat.{ℕ}
use mathlib.Core.Path.{◌≡◌, refl, sym, subst}
use mathlib.Core.Option.{Option, some, none}
use mathlib.Core.List.{List, [], ◌∷◌, ◌++◌, append_assoc, append-nil}
use Rattle.text.specs.Ascii.{ascii, space}
use Rattle.text.specs.Lines.{line}
use Rattle.text.specs.Put.{Put}
use Rattle.text.proofs.Put.{put_both}
use Rattle.levels.specs.Level.{Level, levels, MR, MW, RYW, WFR, CC, UA, PSI, CP, SI, SER}
use Rattle.verdicts.specs.Told.{Told}
use Rattle.report.specs.Report.{level_name, verdict_pieces, verdict_line, verdict_lines}

-- the name of a level, and its verdict behind a space
abbrev named : Level → Option Told → List ℕ
named l v = ascii (level_name l) ++ (space ∷ line (verdict_pieces v))

named-line : (l : Level) (v : Option Told) → named l v ≡ verdict_line l v
unfolding verdict_line
named-line l none = refl
named-line l (some f) = refl

-- put so, the line of the level stands there
pub put-line : {before after : List ℕ} {at end : ℕ} (l : Level) (v : Option Told) → Put before at (named l v) after end → Put before at (verdict_line l v) after end
put-line {before} {after} {at} {end} l v p = subst (λ t. Put before at t after end) (named-line l v) p

-- the last line
pub put-last-line : {before after : List ℕ} {at end : ℕ} (l : Level) (v : Option Told) → Put before at (named l v) after end → Put before at (verdict_line l v ++ []) after end
put-last-line {before} {after} {at} {end} l v p = subst (λ t. Put before at t after end) (sym (append-nil (verdict_line l v))) (put-line l v p)

-- the lines of all levels, in two halves
halves : (a b c d e f g h i j : Option Told)
    → verdict_lines (MR ∷ MW ∷ RYW ∷ WFR ∷ CC ∷ []) (a ∷ b ∷ c ∷ d ∷ e ∷ []) ++ verdict_lines (UA ∷ PSI ∷ CP ∷ SI ∷ SER ∷ []) (f ∷ g ∷ h ∷ i ∷ j ∷ [])
    ≡ verdict_lines levels (a ∷ b ∷ c ∷ d ∷ e ∷ f ∷ g ∷ h ∷ i ∷ j ∷ [])
halves a b c d e f g h i j = simp (append_assoc, append-nil)

pub put-halves : {before middle after : List ℕ} {at mid end : ℕ} (a b c d e f g h i j : Option Told)
    → Put before at (verdict_lines (MR ∷ MW ∷ RYW ∷ WFR ∷ CC ∷ []) (a ∷ b ∷ c ∷ d ∷ e ∷ [])) middle mid
    → Put middle mid (verdict_lines (UA ∷ PSI ∷ CP ∷ SI ∷ SER ∷ []) (f ∷ g ∷ h ∷ i ∷ j ∷ [])) after end
    → Put before at (verdict_lines levels (a ∷ b ∷ c ∷ d ∷ e ∷ f ∷ g ∷ h ∷ i ∷ j ∷ [])) after end
put-halves {before} {middle} {after} {at} {mid} {end} a b c d e f g h i j p q =
    subst (λ t. Put before at t after end) (halves a b c d e f g h i j) (put_both p q)
