-- Answers as words, for callers in Rust and C. The first word of an answer is its code: that of a refusal, which has the same words for all calls, or
-- 0, and what was found after it. Assumes nothing.
use Rattle.std.specs.Prelude.{ℕ, ◌+◌, ◌*◌, List, [], ◌∷◌, ◌++◌}
use Rattle.std.proofs.Math.Option.{Option, some, none}
use Rattle.store.specs.Refusal.{Refusal}
use Rattle.trace.specs.Result.{Result, refused, taken}
use Rattle.verdicts.specs.Verdicts.{level_count}
use Rattle.verdicts.specs.Told.{Told}
use Rattle.judging.specs.Answers.{Judged}
use Rattle.placing.specs.declared.Shown.{Shown}
use Rattle.placing.specs.declared.Shown.TheVariants.{Order, Ring}

-- ---- what all calls have in common

-- the code of a call that has no room for the words of its answer: no file has it
abbrev pub no_room : ℕ
no_room = 255

-- a refusal: its code, record, key, version and writer
abbrev pub refusal_words : Refusal → List ℕ
refusal_words r = r.code ∷ r.at_record ∷ r.key ∷ r.version ∷ r.writer ∷ []

abbrev pub refusal_length : ℕ
refusal_length = 5

-- the code of an answer: "0" where it has what was asked
abbrev pub code_of : {A : Type 0} → Result A → ℕ
code_of (refused r) = r.code
code_of (taken a) = 0

-- the words of an answer, given those of what was found
abbrev pub words_of : {A : Type 0} → (A → List ℕ) → Result A → List ℕ
words_of found (refused r) = refusal_words r
words_of found (taken a) = 0 ∷ found a

-- ---- `replay_file`, `short_file` and `long_file`: the length of the file that was written

abbrev pub replay_words : Result ℕ → List ℕ
replay_words r = words_of (λ n. n ∷ []) r

-- ---- `judge_image`: "Code 0 shows such an order", "code 19 .. shows a ring", and "the answer gives how many" (02, E9)

abbrev pub shown_code : Result Shown → ℕ
shown_code (refused r) = r.code
shown_code (taken (Order n)) = 0
shown_code (taken (Ring n)) = 19

abbrev pub shown_words : Result Shown → List ℕ
shown_words (refused r) = refusal_words r
shown_words (taken (Order n)) = 0 ∷ n ∷ []
shown_words (taken (Ring n)) = 19 ∷ n ∷ []

-- ---- `judge_file`

-- clause, record, key and version of a level's first failure, and four zeros where it accepts
abbrev pub verdict_words : Option Told → List ℕ
verdict_words none = 0 ∷ 0 ∷ 0 ∷ 0 ∷ []
verdict_words (some f) = f.clause ∷ f.at_record ∷ f.key ∷ f.version ∷ []

abbrev pub all_verdict_words : List (Option Told) → List ℕ
all_verdict_words [] = []
all_verdict_words (v ∷ vs) = verdict_words v ++ all_verdict_words vs

-- the records, the commits and the length of the image, then the verdicts in report order
abbrev pub judged_words : Judged → List ℕ
judged_words j = j.records ∷ j.commits ∷ j.image_length ∷ all_verdict_words j.verdicts

abbrev pub answer_words : Result Judged → List ℕ
answer_words a = words_of judged_words a

abbrev pub answer_length : ℕ
answer_length = 4 + 4 * level_count
