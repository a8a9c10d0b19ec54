-- What a call writes into a buffer that it is lent, and what it answers beside it: the image of a judged trace (01, The image), the file of a
-- replay (02, E1), a trace file in another edition (02, E6). Assumes nothing.
use Rattle.std.specs.Prelude.{ℕ, List, leb, length}
use Rattle.search.specs.Choose.{choose, need}
use Rattle.endian.specs.Endian.{put_at}
use Rattle.store.specs.Limits.{max_bytes}
use Rattle.store.specs.Refusal.{refuse}
use Rattle.trace.specs.Result.{Result, refused, taken, on_taken}

-- what a call makes of a file, before its buffer is looked at: the answer, and the bytes that go with it
pub record Output (A : Type 0) : Type 0 where
  pub told : A
  pub bytes : List ℕ

-- a file as what is made: "code 0 answers the length"; "An output over 65,536 bytes gets code 22", which is looked at before any buffer
unfoldable pub file_made : List ℕ → Result (Output ℕ)
file_made file = need (leb (length file) max_bytes) (refused (refuse 22 0)) (taken (record { told = length file; bytes = file }))

-- the answer where the buffer has `room` bytes; a buffer that is too short has a code of its own, which comes after every other refusal
unfoldable pub answer_in : {A : Type 0} → ℕ → ℕ → Result (Output A) → Result A
answer_in code room r = on_taken r (λ o. need (leb (length o.bytes) room) (refused (refuse code 0)) (taken o.told))

-- the buffer afterwards: the bytes at its start, and "bytes after .. keep what they had"; any refusal "changes no byte" of it
unfoldable pub buffer_after : {A : Type 0} → Result (Output A) → List ℕ → List ℕ
buffer_after (refused r) buffer = buffer
buffer_after (taken o) buffer = choose (leb (length o.bytes) (length buffer)) (put_at buffer 0 o.bytes) buffer
