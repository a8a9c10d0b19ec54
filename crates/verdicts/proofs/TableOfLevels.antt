-- The table of levels, as the code has it, by one test that computes. Assumes nothing.
use Prim.Native.Nat.{ℕ, zero, suc, ◌<◌}
use mathlib.Core.Path.{◌≡◌, refl, sym, ap, ◌∙◌}
use mathlib.Core.List.{List, [], ◌∷◌, map}
use native.Mathlib.Omega.{arith}
use lib.ListN.{length, get_or}
use Rattle.levels.specs.Level.{SER, levels, clauses_of}
use Rattle.verdicts.specs.Verdicts.{level_count, level_at, numbers_of}

-- an entry of a table that is made from a list
entry : {A : Type 0} (f : A → ℕ) (xs : List A) (d : A) (i : ℕ) → i < length xs → get_or (map f xs) i 0 ≡ f (get_or xs i d)
entry f [] d i l = absurd (omega arith)
entry f (x ∷ xs) d zero l = refl
entry f (x ∷ xs) d (suc i) l = entry f xs d i (omega arith)

-- for proofs alone: the sets of clauses that the code has, in report order
abbrev pub table : List ℕ
table = 2 ∷ 8 ∷ 4 ∷ 16 ∷ 30 ∷ 32 ∷ 62 ∷ 70 ∷ 166 ∷ 256 ∷ []

table_is : map (λ l. numbers_of (clauses_of l)) levels ≡ table
unfolding numbers_of
table_is = refl

pub table-entry : (i : ℕ) → i < level_count → get_or table i 0 ≡ numbers_of (clauses_of (level_at i))
table-entry i l = ap (λ (xs : List ℕ). get_or xs i 0) (sym table_is) ∙ entry (λ m. numbers_of (clauses_of m)) levels SER i l
