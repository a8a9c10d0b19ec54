-- What the call answers where the image is misshapen. Assumes nothing.
use Prim.Native.Nat.{ℕ}
use mathlib.Core.Path.{◌≡◌, sym, ap}
use mathlib.Core.Bool.{false}
use mathlib.Core.List.{List}
use lib.ListN.{length}
use Rattle.store.specs.Refusal.{refuse}
use Rattle.trace.specs.Result.{Result, refused, taken, on_taken}
use Rattle.ordering.specs.Judge.{Shown}
use Rattle.placing.specs.Answers.{shown_as}
use Rattle.reading.specs.Shape.{well_shaped}
use Rattle.arranging.specs.Answer.{shown_answer, with_shown, shown_after}
use Rattle.arranging.proofs.Answered.{twenty-first}

module _ (b : List ℕ) (bad : well_shaped b ≡ false) where
  pub misshapen-answer : (room : ℕ) → refused (refuse 20 0) ≡ shown_answer b room
  unfolding shown_answer on_taken
  misshapen-answer room = sym (ap (λ (r : Result Shown). on_taken r (λ s. taken (shown_as s))) (twenty-first b bad room))

  pub misshapen-after : (buffer : List ℕ) → buffer ≡ shown_after b buffer
  unfolding with_shown
  misshapen-after buffer = sym (ap (λ (r : Result Shown). with_shown r buffer) (twenty-first b bad (length buffer)))
