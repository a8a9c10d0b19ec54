-- The whole answer of the call that reports visibility, as one function of the bytes of a trace file and of the lengths of an image buffer and of a table
-- of rows (02, E14). Assumes nothing.
use Rattle.std.specs.Prelude.{ℕ, List}
use Rattle.sets.specs.Set.{Set}
use Rattle.trace.specs.Result.{Result, taken, on_taken}
use Rattle.answer.specs.Output.{Output, answer_in, buffer_after}
use Rattle.answer.specs.Answer.{final_store, accept}
use Rattle.judging.specs.Answers.{Judged, told_answer}
use Rattle.visible.specs.Visible.{rows}

-- what is made of the bytes of a file and an image buffer of `room` bytes, before the table is looked at: what the judge tells, "after every refusal of the
-- judge", and "one u64 row per commit in order"
unfoldable pub reported : List ℕ → ℕ → Result (Output Judged)
reported bytes room = on_taken (told_answer bytes room) (λ j. on_taken (accept bytes) (λ t. taken (record { told = j; bytes = rows (final_store t) })))

-- the answer: "A lent table of fewer rows than commits gets code 21, after every refusal of the judge"
unfoldable pub visibility_answer : List ℕ → ℕ → ℕ → Result Judged
visibility_answer bytes room table = answer_in 21 table (reported bytes room)

-- the table afterwards: the rows at its start, and "further rows keep what they had"; "any refusal leaves it unwritten"
abbrev pub table_after : List ℕ → ℕ → List Set → List Set
table_after bytes room table = buffer_after (reported bytes room) table
