-- What the words of the verdicts tell, level by level and in all. Assumes nothing.
use Prim.Native.Nat.{ℕ}
use mathlib.Core.Path.{◌≡◌, refl}
use mathlib.Core.Logic.{◌≢◌}
use mathlib.Core.Option.{Option, some, none}
use mathlib.Core.List.{List, [], ◌∷◌}
use native.Mathlib.Omega.{arith}
use lib.ListN.{get_or}
use Rattle.search.specs.Choose.{map_some}
use Rattle.levels.specs.Level.{Failure}
use Rattle.verdicts.specs.Verdicts.{record_place, key_place, version_place, KeepsVerdict}
use Rattle.verdicts.specs.Told.{tell}
use Rattle.verdicts.proofs.FirstFailing.{number-range}

-- a level whose first word is 0 accepts
pub told-accepted : (words : List ℕ) (i : ℕ) → get_or words i 0 ≡ 0 → (f : Option Failure) → KeepsVerdict words i f → none ≡ map_some tell f
unfolding KeepsVerdict map_some
told-accepted words i e none h = refl
told-accepted words i e (some f) h = absurd (omega (arith, number-range f.clause, h.0))

-- and one whose first word is another is refused at its failure
pub told-refused : (words : List ℕ) (i : ℕ) → get_or words i 0 ≢ 0 → (f : Option Failure) → KeepsVerdict words i f
    → some (record { at_record = get_or words (record_place i) 0; clause = get_or words i 0; key = get_or words (key_place i) 0; version = get_or words (version_place i) 0 }) ≡ map_some tell f
unfolding KeepsVerdict map_some
told-refused words i d none h = absurd (d h)
told-refused words i d (some f) h = rw (h.0, h.1, h.2, h.3)

-- lists of ten, term by term
pub ten-same : {A : Type 0} {a b c d e f g h i j a' b' c' d' e' f' g' h' i' j' : A}
    → a ≡ a' → b ≡ b' → c ≡ c' → d ≡ d' → e ≡ e' → f ≡ f' → g ≡ g' → h ≡ h' → i ≡ i' → j ≡ j'
    → (a ∷ b ∷ c ∷ d ∷ e ∷ f ∷ g ∷ h ∷ i ∷ j ∷ []) ≡ (a' ∷ b' ∷ c' ∷ d' ∷ e' ∷ f' ∷ g' ∷ h' ∷ i' ∷ j' ∷ [])
ten-same p0 p1 p2 p3 p4 p5 p6 p7 p8 p9 = rw (p0, p1, p2, p3, p4, p5, p6, p7, p8, p9)
