-- The whole answer of the call that judges a bare image, as one function of the bytes of the image and of the buffer's length (02, E9). Assumes nothing.
use Rattle.std.specs.Prelude.{ℕ, List, leb, length}
use Rattle.search.specs.Choose.{need}
use Rattle.endian.specs.Endian.{put_at}
use Rattle.store.specs.Limits.{max_commits}
use Rattle.store.specs.Refusal.{refuse}
use Rattle.trace.specs.Result.{Result, refused, taken, on_taken}
use Rattle.ordering.specs.Judge.{Shown, shown_commits, judge_bare}
use Rattle.placing.specs.declared.Shown as Placing
use Rattle.placing.specs.Answers.{shown_as}
use Rattle.store.specs.Reading.{store_of}
use Rattle.reading.specs.Shape.{well_shaped}

-- what is shown for an image, before the buffer is looked at; "Code 20 is a misshapen image"
unfoldable pub shown_for : List ℕ → Result Shown
shown_for bytes = need (well_shaped bytes) (refused (refuse 20 0)) (taken (judge_bare (store_of bytes)))

-- the same where the buffer has `room` bytes: "under 63 bytes is code 17, after 20"
unfoldable pub shown_in : List ℕ → ℕ → Result Shown
shown_in bytes room = on_taken (shown_for bytes) (λ s. need (leb max_commits room) (refused (refuse 17 0)) (taken s))

-- an order or a ring, and "the answer gives how many"
unfoldable pub shown_answer : List ℕ → ℕ → Result Placing.Shown
shown_answer bytes room = on_taken (shown_in bytes room) (λ s. taken (shown_as s))

-- the buffer afterwards: "Either goes, one byte a commit, the ring in the order of its links, into a lent buffer", "and later bytes keep what they had";
-- "Codes 17 and 20 write nothing"
unfoldable pub with_shown : Result Shown → List ℕ → List ℕ
with_shown (refused r) buffer = buffer
with_shown (taken s) buffer = put_at buffer 0 (shown_commits s)

abbrev pub shown_after : List ℕ → List ℕ → List ℕ
shown_after bytes buffer = with_shown (shown_in bytes (length buffer)) buffer
