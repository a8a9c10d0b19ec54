-- What a close makes of a session record, and what it answers (02, E5), for any record and any buffer. Assumes nothing.
use Rattle.std.specs.Prelude.{ℕ, ◌≡◌, List, leb, length, take}
use Rattle.search.specs.Choose.{need}
use Rattle.store.specs.Limits.{max_bytes}
use Rattle.store.specs.Refusal.{Refusal, refuse}
use Rattle.trace.specs.Result.{Result, refused, taken, on_taken}
use Rattle.answer.specs.Answer.{image_after}
use Rattle.judging.specs.Answers.{Judged, told_answer}
use Rattle.pieces.specs.declared.Session.{Session}
use Rattle.pieces.specs.Piece.{is_open}

-- the file that a close judges, or its refusal: code 18 after the close; 1, as for any file that is too long; 17, where what came has no room in the buffer
unfoldable pub session_file : Session → List ℕ → Result (List ℕ)
session_file s kept =
    need (is_open s) (refused (refuse 18 0))
    (need (leb s.total max_bytes) (refused (refuse 1 0))
    (need (leb s.total (length kept)) (refused (refuse 17 0)) (taken (take s.total kept))))

-- "the close judges": the answer with an image buffer of `room` bytes, as the file has it
abbrev pub close_answer : Session → List ℕ → ℕ → Result Judged
close_answer s kept room = on_taken (session_file s kept) (λ file. told_answer file room)

-- the image buffer afterwards: as the file leaves it, and as it came where there is no file
unfoldable pub image_of : Result (List ℕ) → List ℕ → List ℕ
image_of (refused r) image = image
image_of (taken file) image = image_after file image

abbrev pub close_image : Session → List ℕ → List ℕ → List ℕ
close_image s kept image = image_of (session_file s kept) image

-- "a refusal leaves the image as it came"
abbrev pub RefusalKeepsImage : Session → List ℕ → List ℕ → Type 0
RefusalKeepsImage s kept image = (r : Refusal) → close_answer s kept (length image) ≡ refused r → close_image s kept image ≡ image

-- the record afterwards: "a close that was refused has closed too", and one "after the close .. changes nothing"
unfoldable pub shut : Session → Session
shut s = need (is_open s) s (record { total = s.total; closed = 1 })
