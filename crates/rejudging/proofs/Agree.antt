-- What the plain engine answers in each of its cases is what the judge answers, with a buffer that has room for the image. Assumes nothing.
use Prim.Native.Nat.{ℕ, ◌≤◌}
use mathlib.Core.Path.{◌≡◌, refl, sym, ap, ◌∙◌}
use mathlib.Core.List.{List}
use native.Mathlib.Nat.{le_trans}
use lib.ListN.{length, replicate, length-replicate}
use Rattle.store.specs.Limits.{max_image}
use Rattle.store.specs.Refusal.{Refusal}
use Rattle.trace.specs.Result.{Result, refused, taken, on_taken}
use Rattle.trace.specs.Format.{Trace}
use Rattle.answer.specs.Answer.{accept, report, ImageFits}
use Rattle.judging.specs.Answers.{judged_of, told_answer}
use Rattle.judging.proofs.Answered.{refused-answer, judged-answer}
use Rattle.rejudging.specs.Plain.{plain_answer, EnginesAgree}

module _ (bytes : List ℕ) where
  pub plain-refused : (r : Refusal) → accept bytes ≡ refused r → refused r ≡ plain_answer bytes
  unfolding plain_answer on_taken
  plain-refused r e = rw e refl

  pub plain-taken : (t : Trace) → accept bytes ≡ taken t → taken (judged_of (report t)) ≡ plain_answer bytes
  unfolding plain_answer on_taken
  plain-taken t e = rw e refl

  -- with any buffer of so many bytes
  pub engines-agree : EnginesAgree bytes
  engines-agree room fits = go (accept bytes) refl
    where
      buffer : List ℕ
      buffer = replicate room 0

      long : length buffer ≡ room
      long = length-replicate room 0

      go : (a : Result Trace) → accept bytes ≡ a → told_answer bytes room ≡ plain_answer bytes
      go (refused r) e = ap (told_answer bytes) (sym long) ∙ sym (refused-answer bytes buffer r e).said ∙ plain-refused r e
      go (taken t) e =
          ap (told_answer bytes) (sym long) ∙ sym (judged-answer bytes buffer t e (rw long (fits t e))).said ∙ plain-taken t e

  -- where it has room for the longest image
  pub longest-agrees : ImageFits bytes → (room : ℕ) → max_image ≤ room → told_answer bytes room ≡ plain_answer bytes
  longest-agrees most room l = engines-agree room (λ t e. le_trans (most t e) l)
