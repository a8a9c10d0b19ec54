-- The whole answer of the call that writes the replay of a trace as a file, as one function of the bytes of a trace file and of the file buffer's
-- length (02, E1). Assumes nothing.
use Rattle.std.specs.Prelude.{ℕ, ◌≡◌, List, length, take}
use Rattle.search.specs.Choose.{map_some}
use Rattle.store.specs.Limits.{max_replay}
use Rattle.store.specs.Refusal.{Refusal, refuse_place}
use Rattle.trace.specs.Result.{Result, taken, on_taken}
use Rattle.trace.specs.Format.{Trace}
use Rattle.levels.specs.Level.{SER, Failure}
use Rattle.answer.specs.Output.{Output, answer_in, buffer_after}
use Rattle.answer.specs.Answer.{unless, accept, verdict, AtMost}
use Rattle.answer.specs.Replay.{replay}
use Rattle.answer.specs.Demand3.{SameOutcome}

-- "If SER did not accept, code 16 with SER's failing record, key and version"
abbrev pub not_serial : Failure → Refusal
not_serial f = refuse_place 16 f.at_record (record { key = f.key; version = f.version })

-- "When SER accepts, I want the trace from demand 3 as a file"; "Code 0 answers the file's length."
unfoldable pub serial_replay : Trace → Result (Output ℕ)
serial_replay t = unless (map_some not_serial (verdict SER t)) (record { told = length (replay t); bytes = replay t })

-- what is made of the bytes of a file: "A refused trace keeps its own code, before 16"
unfoldable pub written : List ℕ → Result (Output ℕ)
written bytes = on_taken (accept bytes) serial_replay

-- the answer for the bytes of a file and a file buffer of `room` bytes: "if the lent file buffer is too short, code 17, checked after 16"
unfoldable pub replay_answer : List ℕ → ℕ → Result ℕ
replay_answer bytes room = answer_in 17 room (written bytes)

-- what stands in the file buffer afterwards: "any refusal leaves a file buffer untouched, and bytes after the file keep what they had"
abbrev pub replay_after : List ℕ → List ℕ → List ℕ
replay_after bytes buffer = buffer_after (written bytes) buffer

-- "the file from E1 65,532" (02, E2)
abbrev pub ReplayFits : List ℕ → Type 0
ReplayFits bytes = AtMost max_replay replay bytes

-- "Reading the written file back must give the same image and ten accepted": where n bytes were written, the first n bytes of the buffer afterwards
-- have the outcome that demand 3 says of the replay
abbrev pub ReadsBack : List ℕ → ℕ → List ℕ → Type 0
ReadsBack bytes room after = (n : ℕ) → replay_answer bytes room ≡ taken n → (t : Trace) × (accept bytes ≡ taken t) × SameOutcome t (take n after)
