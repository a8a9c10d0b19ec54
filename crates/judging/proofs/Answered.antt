-- What the definitions answer in each of the cases that the call comes to. Assumes nothing.
use Prim.Native.Nat.{ℕ, ◌≤◌, ◌<◌}
use mathlib.Core.Path.{◌≡◌, refl, ap}
use mathlib.Core.Option.{Option}
use mathlib.Core.List.{List}
use lib.ListN.{length}
use Rattle.endian.specs.Endian.{put_at}
use Rattle.store.specs.Refusal.{Refusal, refuse}
use Rattle.store.specs.Image.{image}
use Rattle.trace.specs.Result.{Result, refused, taken, on_taken}
use Rattle.trace.specs.Format.{Trace}
use Rattle.answer.specs.Output.{Output}
use Rattle.answer.specs.Answer.{final_store, accept, verdict, Report, report, judged, answer, image_after}
use Rattle.answer.proofs.Output.{Ends, ends-refused, ends-short, ends-written}
use Rattle.verdicts.specs.Told.{Told, tell_all}
use Rattle.judging.specs.Answers.{Judged, judged_of, told_answer}

-- what is answered for a file, and what then stands in a buffer
pub record Answers (bytes buffer : List ℕ) (told : Result Judged) (after : List ℕ) : Type 0 where
  pub said : told ≡ told_answer bytes (length buffer)
  pub drawn : after ≡ image_after bytes buffer

module _ (bytes buffer : List ℕ) where
  -- a report is told as what was judged
  answers : {r : Result Report} {after : List ℕ} → Ends 15 (judged bytes) buffer r after → Answers bytes buffer (on_taken r (λ q. taken (judged_of q))) after
  unfolding told_answer answer
  answers e = record { said = ap (λ (x : Result Report). on_taken x (λ q. taken (judged_of q))) e.said; drawn = e.left }

  -- a file that is not accepted: the refusal, and the buffer as it came
  pub refused-answer : (r : Refusal) → accept bytes ≡ refused r → Answers bytes buffer (refused r) buffer
  unfolding judged on_taken
  refused-answer r e = answers (ends-refused 15 buffer r (rw e refl))

  -- ---- it is taken

  module _ (t : Trace) (e : accept bytes ≡ taken t) where
    abbrev output : Output Report
    output = record { told = report t; bytes = image (final_store t) }

    made : judged bytes ≡ taken output
    unfolding judged on_taken
    made = rw e refl

    -- code 15, where the buffer is too short
    pub short-answer : length buffer < length (image (final_store t)) → Answers bytes buffer (refused (refuse 15 0)) buffer
    unfolding on_taken
    short-answer l = answers (ends-short 15 buffer output made l)

    -- the report, and the image at the start of the buffer
    pub judged-answer : length (image (final_store t)) ≤ length buffer → Answers bytes buffer (taken (judged_of (report t))) (put_at buffer 0 (image (final_store t)))
    unfolding on_taken
    judged-answer l = answers (ends-written 15 buffer output made l)

-- what is judged of a trace, from its parts
pub told-report : (t : Trace) {vs : List (Option Told)} {records commits whole : ℕ} → vs ≡ tell_all (λ l. verdict l t)
    → length t.events ≡ records → (final_store t).commits ≡ commits → whole ≡ length (image (final_store t))
    → taken (record { verdicts = vs; records = records; commits = commits; image_length = whole }) ≡ taken (judged_of (report t))
unfolding report
told-report t v r c w = rw (v, ← r, ← c, w)
