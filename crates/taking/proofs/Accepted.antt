-- What is accepted of the bytes of a file, in each of the cases that the code comes to. Assumes nothing.
use Prim.Native.Nat.{ℕ}
use mathlib.Core.Path.{◌≡◌, ap, ◌∙◌}
use mathlib.Core.Option.{Option, some, none}
use mathlib.Core.List.{List}
use Rattle.store.specs.Refusal.{Refusal}
use Rattle.trace.specs.Result.{Result, refused, taken, on_taken}
use Rattle.trace.specs.Format.{Trace, decode}
use Rattle.answer.specs.Answer.{meaningless, unless, accept}

-- its form is wrong
pub misshapen : (bytes : List ℕ) (r : Refusal) → decode bytes ≡ refused r → accept bytes ≡ refused r
unfolding accept on_taken
misshapen bytes r e = ap (λ (x : Result Trace). on_taken x (λ t. unless (meaningless t) t)) e

module _ (bytes : List ℕ) (t : Trace) (d : decode bytes ≡ taken t) where
  -- what it says, given the trace that it has
  decided : (o : Option Refusal) → meaningless t ≡ o → accept bytes ≡ unless o t
  unfolding accept on_taken
  decided o m = ap (λ (x : Result Trace). on_taken x (λ q. unless (meaningless q) q)) d ∙ ap (λ (x : Option Refusal). unless x t) m

  -- one of its records means what cannot be
  pub refused-meaning : (r : Refusal) → meaningless t ≡ some r → accept bytes ≡ refused r
  unfolding unless
  refused-meaning r m = decided (some r) m

  -- none does
  pub accepted : meaningless t ≡ none → accept bytes ≡ taken t
  unfolding unless
  accepted m = decided none m
