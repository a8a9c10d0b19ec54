-- What the answers of the call mean: "Each enum answer has a definition that gives this paper's number and values for each of its
-- cases" (01, Which shape goes where). Assumes nothing.
use Rattle.std.specs.Prelude.{ℕ, List, map, Ok, Err}
use Rattle.std.specs.Prelude as Library
use Rattle.std.proofs.Math.Option.{Option}
use Rattle.search.specs.Choose.{map_some}
use Rattle.trace.specs.Result.{Result, refused, taken, on_taken}
use Rattle.answer.specs.Answer.{Report, answer}
use Rattle.state.specs.Answers.{refusal_of}
use Rattle.state.specs.declared.Refusal.{Refusal}
use Rattle.verdicts.specs.Told.{Told, tell, verdicts_of}
use Rattle.judging.specs.declared.Judged as Judging

-- "judged: verdicts, records, commits, image length"
pub record Judged : Type 0 where
  pub verdicts : List (Option Told)
  pub records : ℕ
  pub commits : ℕ
  pub image_length : ℕ

abbrev pub judged_of : Report → Judged
judged_of r = record { verdicts = map (map_some tell) r.verdicts; records = r.records; commits = r.commits; image_length = r.image_length }

-- the answer for the bytes of a file and an image buffer of `room` bytes, as it is told
unfoldable pub told_answer : List ℕ → ℕ → Result Judged
told_answer bytes room = on_taken (answer bytes room) (λ r. taken (judged_of r))

-- the answer of the code
abbrev pub answer_of : Library.Result Judging.Judged Refusal → Result Judged
answer_of (Err r) = refused (refusal_of r)
answer_of (Ok j) = taken (record { verdicts = verdicts_of j.verdicts; records = j.records; commits = j.commits; image_length = j.image_length })
