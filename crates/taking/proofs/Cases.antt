-- What the answer of `take_file` says, case by case: for the calls that end with it. Assumes nothing.
use Prim.Native.Nat.{ℕ}
use mathlib.Core.Path.{◌≡◌, subst}
use mathlib.Core.List.{List}
use Rattle.std.specs.Prelude.{Result, Ok, Err}
use Rattle.trace.specs.Result.{refused}
use Rattle.trace.specs.Format.{Trace}
use Rattle.answer.specs.Answer.{accept}
use Rattle.state.specs.Answers.{refusal_of}
use Rattle.state.specs.declared.Refusal.{Refusal}
use Rattle.taking.specs.Taking.{Takes, TakingSays}
use Rattle.taking.specs.declared.Taken.{Taken}

module _ (bytes versions keys commits views : List ℕ) {r : Result Taken Refusal} (says : TakingSays bytes versions keys commits views r) where
  pub says-refused : {why : Refusal} → r ≡ Err why → accept bytes ≡ refused (refusal_of why)
  unfolding TakingSays
  says-refused e = subst (TakingSays bytes versions keys commits views) e says

  pub says-taken : {a : Taken} → r ≡ Ok a → (t : Trace) × Takes bytes t versions keys commits views a.header a.commits a.verdicts
  unfolding TakingSays
  says-taken e = subst (TakingSays bytes versions keys commits views) e says
