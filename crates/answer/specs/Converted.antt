-- The whole answer of the calls that write a taken file in an edition, as one function of the bytes of a trace file and of the file buffer's
-- length: "Also write any taken file short, record for record, each 2 as a 6 and each 3 as a 5, or long the other way round" (02, E6). Assumes
-- nothing.
use Rattle.std.specs.Prelude.{ℕ, ◌≡◌, List, T, length, take}
use Rattle.trace.specs.Result.{Result, taken, on_taken}
use Rattle.trace.specs.Format.{Trace}
use Rattle.trace.specs.Edition.{Edition, long, encode_in, only_long}
use Rattle.answer.specs.Output.{Output, file_made, answer_in, buffer_after}
use Rattle.answer.specs.Answer.{accept, answer, image_after}

-- what is made of the bytes of a file: "a refused file keeps its code (15 is not used) and is not converted"
unfoldable pub converted : Edition → List ℕ → Result (Output ℕ)
converted x bytes = on_taken (accept bytes) (λ (t : Trace). file_made (encode_in x t))

-- the answer for the bytes of a file and a file buffer of `room` bytes: "An output over 65,536 bytes gets code 22, then a short buffer 17"
unfoldable pub convert_answer : Edition → List ℕ → ℕ → Result ℕ
convert_answer x bytes room = answer_in 17 room (converted x bytes)

-- what stands in the file buffer afterwards: with a refusal "nothing written"
abbrev pub convert_after : Edition → List ℕ → List ℕ → List ℕ
convert_after x bytes buffer = buffer_after (converted x bytes) buffer

-- ---- what holds of a file that was written for the bytes of another

pub record SameFile (bytes file : List ℕ) : Type 0 where
  -- "The written file gets the same answer and image": for every image buffer
  pub same_answer : (room : ℕ) → answer file room ≡ answer bytes room
  pub same-image : (buffer : List ℕ) → image_after file buffer ≡ image_after bytes buffer
  -- it is written as the other would be, in either edition: what was written short and then is written long is what is long at once, and what was
  -- written short is not changed by writing it short
  pub same-again : (x : Edition) → converted x file ≡ converted x bytes
  -- "Long, short, long returns the same bytes if the long file had only kinds 2 and 3": the step back is never refused
  pub long-again : T (only_long bytes) → converted long file ≡ taken (record { told = length bytes; bytes = bytes })

-- where n bytes were written, the first n bytes of the buffer afterwards are such a file
abbrev pub WrittenSame : Edition → List ℕ → ℕ → List ℕ → Type 0
WrittenSame x bytes room after = (n : ℕ) → convert_answer x bytes room ≡ taken n → SameFile bytes (take n after)
