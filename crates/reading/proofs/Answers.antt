-- The answer of a test as the fact that it tests. Assumes nothing.
use Prim.Native.Nat.{ℕ}
use mathlib.Core.Path.{◌≡◌, sym, ◌∙◌}
use mathlib.Core.Bool.{Bool, true, false, false≢true}
use mathlib.Core.Logic.{◌↔◌}
use lib.Dec.{eqb}
use borrow.Author.Tests.{eqb-true, eq-eqb}

-- "no", the fact not being so
pub refused : {A : Type 0} → ¬ A → (false ≡ true) ↔ A
refused n = (λ e. absurd (false≢true e), λ a. absurd (n a))

-- the answer of a comparison
pub compared : {A : Type 0} (m n : ℕ) → (m ≡ n) ↔ A → (eqb m n ≡ true) ↔ A
compared m n h = (λ e. h.0 (eqb-true m n e), λ a. eq-eqb m n (h.1 a))

-- what a "no" and a "yes" say
pub said-no : {A : Type 0} {r : Bool} → (r ≡ true) ↔ A → r ≡ false → ¬ A
said-no h e a = false≢true (sym e ∙ h.1 a)
