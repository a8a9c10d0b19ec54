-- The whole answer of the judge, as one function of the bytes of a trace file and of the image buffer's length (01, Bench codes;
-- demands 1 and 2). Assumes nothing.
use Rattle.std.specs.Prelude.{ℕ, ◌≤◌, ◌≡◌, List, map, length}
use Rattle.std.proofs.Math.Option.{Option, some, none}
use Rattle.store.specs.Limits.{max_image}
use Rattle.store.specs.Store.{Store, opening}
use Rattle.store.specs.Update.{final, first_along}
use Rattle.store.specs.Refusal.{Refusal, refuses_event}
use Rattle.store.specs.Image.{image}
use Rattle.trace.specs.Result.{Result, refused, taken, on_taken}
use Rattle.trace.specs.Format.{Trace, decode}
use Rattle.levels.specs.Level.{Level, levels, Failure, first_failure}
use Rattle.answer.specs.Output.{Output, answer_in, buffer_after}

-- "the whole list of its shifts and commits, run in turn from the opening store and views for its keys and clients"
abbrev pub final_store : Trace → Store
final_store t = (final (opening t.keys) t.events).store

-- codes 9 to 14: the first record that means what cannot be
abbrev pub meaningless : Trace → Option Refusal
meaningless t = first_along refuses_event 1 (opening t.keys) t.events

-- refused where there is a refusal
unfoldable pub unless : {A : Type 0} → Option Refusal → A → Result A
unless (some r) a = refused r
unless none a = taken a

-- "A trace is taken if none of codes 1 to 14 is due for its bytes, however long the image buffer is."
unfoldable pub accept : List ℕ → Result Trace
accept bytes = on_taken (decode bytes) (λ t. unless (meaningless t) t)

-- the verdict of a level on a trace: its first failure, or none where it accepts
abbrev pub verdict : Level → Trace → Option Failure
verdict l t = first_failure l (opening t.keys) t.events

-- "judged: verdicts, records, commits, image length"; the verdicts in report order
pub record Report : Type 0 where
  pub verdicts : List (Option Failure)
  pub records : ℕ
  pub commits : ℕ
  pub image_length : ℕ

unfoldable pub report : Trace → Report
report t = record {
  verdicts = map (λ l. verdict l t) levels;
  records = length t.events;
  commits = (final_store t).commits;
  image_length = length (image (final_store t));
}

-- what is made of the bytes of a file: the report, and the image of its store
unfoldable pub judged : List ℕ → Result (Output Report)
judged bytes = on_taken (accept bytes) (λ t. taken (record { told = report t; bytes = image (final_store t) }))

-- the answer for the bytes of a file and an image buffer of `room` bytes; code 15: "image buffer shorter than the image", "15 last"
unfoldable pub answer : List ℕ → ℕ → Result Report
answer bytes room = answer_in 15 room (judged bytes)

-- what stands in the image buffer after the bytes of a file were judged
abbrev pub image_after : List ℕ → List ℕ → List ℕ
image_after bytes buffer = buffer_after (judged bytes) buffer

-- what is made of a trace has at most so many bytes, whatever trace the bytes of a file are taken as
abbrev pub AtMost : ℕ → (Trace → List ℕ) → List ℕ → Type 0
AtMost most made bytes = (t : Trace) → accept bytes ≡ taken t → length (made t) ≤ most

-- "The limit is then 49,536 bytes for 32 keys" (02, E8)
abbrev pub ImageFits : List ℕ → Type 0
ImageFits bytes = AtMost max_image (λ t. image (final_store t)) bytes
