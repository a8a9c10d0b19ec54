-- What the call answers where the judge refuses. Assumes nothing.
use Prim.Native.Nat.{ℕ}
use mathlib.Core.Path.{◌≡◌, refl, sym}
use mathlib.Core.List.{List}
use lib.ListN.{length}
use Rattle.sets.specs.Set.{Set}
use Rattle.store.specs.Refusal.{Refusal}
use Rattle.trace.specs.Result.{refused, on_taken}
use Rattle.answer.specs.Output.{buffer_after}
use Rattle.judging.specs.Answers.{told_answer}
use Rattle.seeing.specs.Answer.{reported}
use Rattle.seeing.proofs.Answered.{Answers, judge-first}

pub refused-answer : (bytes : List ℕ) (room : ℕ) (table : List Set) (r : Refusal) → told_answer bytes room ≡ refused r
    → Answers bytes room table (refused r) table
unfolding reported on_taken buffer_after
refused-answer bytes room table r e = record { said = sym (judge-first bytes room table r e (length table)); left = rw e refl }
