-- "A plain second engine" (02, E10): what it answers, and that the judge answers the same. Assumes nothing.
use Rattle.std.specs.Prelude.{ℕ, ◌≤◌, ◌≡◌, List, length}
use Rattle.store.specs.Image.{image}
use Rattle.trace.specs.Result.{Result, taken, on_taken}
use Rattle.trace.specs.Format.{Trace}
use Rattle.answer.specs.Answer.{final_store, accept, report}
use Rattle.judging.specs.Answers.{Judged, judged_of, told_answer}

-- "a refused trace gets the judge's refusal (15 is not used)": codes 1 to 14; or what the definitions report of the trace, the length of its image with it
unfoldable pub plain_answer : List ℕ → Result Judged
plain_answer bytes = on_taken (accept bytes) (λ t. taken (judged_of (report t)))

-- a buffer of so many bytes has room for the image, if the bytes of the file are taken
abbrev pub RoomForImage : List ℕ → ℕ → Type 0
RoomForImage bytes room = (t : Trace) → accept bytes ≡ taken t → length (image (final_store t)) ≤ room

-- "both give the same verdicts, records, clauses, keys and versions on every trace that is taken", and the same refusal of every other: with any buffer in
-- which code 15 is not due, the answer of the judge is that of the plain engine
abbrev pub EnginesAgree : List ℕ → Type 0
EnginesAgree bytes = (room : ℕ) → RoomForImage bytes room → told_answer bytes room ≡ plain_answer bytes
