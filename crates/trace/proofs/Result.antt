-- Answers that are a refusal or a value, taken apart. Assumes nothing.
use Prim.Native.Nat.{ℕ}
use mathlib.Core.Path.{◌≡◌, refl}
use native.Mathlib.Omega.{arith}
use Rattle.store.specs.Refusal.{Refusal}
use Rattle.trace.specs.Result.{Result, refused, taken, on_taken}

-- a refusal is not a value
pub refused-taken : {A X : Type 0} {r : Refusal} {a : A} → ◌≡◌ {A = Result A} (refused r) (taken a) → X
refused-taken e = let z : ◌≡◌ {A = ℕ} 0 1 = cc in absurd (omega arith)

pub taken-injective : {A : Type 0} {a b : A} → ◌≡◌ {A = Result A} (taken a) (taken b) → a ≡ b
taken-injective e = cc

-- what was gone on with
pub on_taken-taken : {A B : Type 0} (x : Result A) (f : A → Result B) {b : B} → on_taken x f ≡ taken b → (a : A) × (x ≡ taken a) × (f a ≡ taken b)
unfolding on_taken
on_taken-taken (refused r) f e = refused-taken e
on_taken-taken (taken a) f e = (a, refl, e)
