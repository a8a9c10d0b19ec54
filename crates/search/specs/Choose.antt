-- Choices by a test, and the first of several answers. Assumes nothing.
use Rattle.std.specs.Prelude.{Bool, true, false, List, [], ◌∷◌}
use Rattle.std.proofs.Math.Option.{Option, some, none}

-- the first value where the test holds, the second where it does not
unfoldable pub choose {ℓ} : {A : Type ℓ} → Bool → A → A → A
choose true a b = a
choose false a b = b

-- a condition for going on: `rest` where the test holds, and `bad` where it does not
unfoldable pub need {ℓ} : {A : Type ℓ} → Bool → A → A → A
need true bad rest = rest
need false bad rest = bad

-- an answer where there is one
unfoldable pub is_some : {A : Type 0} → Option A → Bool
is_some (some a) = true
is_some none = false

-- what is made of an answer, where there is one
unfoldable pub map_some : {A B : Type 0} → (A → B) → Option A → Option B
map_some f (some a) = some (f a)
map_some f none = none

-- the value where the test holds, and no answer where it does not
unfoldable pub when : {A : Type 0} → Bool → A → Option A
when true a = some a
when false a = none

-- the first answer, or the second where there is no first
unfoldable pub or_else : {A : Type 0} → Option A → Option A → Option A
or_else (some a) o = some a
or_else none o = o

-- the first answer of a list
unfoldable pub first_some : {A : Type 0} → List (Option A) → Option A
first_some [] = none
first_some (o ∷ os) = or_else o (first_some os)
