-- What a close answers in each of the cases that it comes to; and that of a record that has taken some bytes it is what `judge` answers for them. Assumes nothing.
use Prim.Native.Nat.{ℕ, ◌≤◌, ◌<◌}
use mathlib.Core.Path.{◌≡◌, refl, sym, ap, ◌∙◌, subst}
use mathlib.Core.Logic.{◌≢◌, ⊎_elim}
use mathlib.Core.Bool.{Bool, true, false}
use mathlib.Core.List.{List, []}
use native.Mathlib.Omega.{arith}
use lib.Dec.{leb}
use lib.ListN.{length, take, length-take, get_or-eq_default}
use lib.Seq.{get_or-take}
use borrow.Author.Tests.{eq-eqb, ne_eqb}
use Rattle.search.specs.Choose.{need, choose}
use Rattle.search.proofs.Steps.{tests, need-met, need-unmet}
use Rattle.endian.specs.Endian.{Bytes, put_at}
use Rattle.store.specs.Limits.{max_bytes}
use Rattle.store.specs.Refusal.{Refusal, refuse}
use Rattle.trace.specs.Result.{Result, refused, taken, on_taken}
use Rattle.trace.specs.Format.{Trace, decode}
use Rattle.trace.proofs.Result.{refused-taken}
use Rattle.answer.specs.Output.{Output, answer_in, buffer_after}
use Rattle.answer.specs.Answer.{Report, meaningless, unless, accept, judged, answer, image_after}
use Rattle.answer.specs.Demand3.{Claim}
use Rattle.answer.specs.Recorded.{Recorded}
use Rattle.answer.proofs.Demand3.{demand3}
use Rattle.answer.proofs.Recorded.{image-says}
use Rattle.judging.specs.Answers.{Judged, judged_of, told_answer}
use Rattle.judging.proofs.Answered.{refused-answer}
use Rattle.pieces.specs.declared.Session.{Session}
use Rattle.pieces.specs.Piece.{is_open, opened}
use Rattle.pieces.specs.Close.{session_file, close_answer, image_of, close_image, RefusalKeepsImage}
use Rattle.pieces.specs.Has.{Has, RoomFor, JudgesJoined, State, after_pieces, joined}
use Rattle.pieces.proofs.Placed.{lt-or-le}
use Rattle.pieces.proofs.Taken.{has-opened, has-pieces, length-pieces, has_within, has-beyond}

-- ---- the cases

-- what is answered, and what then stands in the image buffer
pub record Closes (s : Session) (kept image : List ℕ) (told : Result Judged) (after : List ℕ) : Type 0 where
  pub said : told ≡ close_answer s kept (length image)
  pub drawn : after ≡ close_image s kept image

module _ (s : Session) (kept image : List ℕ) where
  -- a file, or none
  closes : {f : Result (List ℕ)} → f ≡ session_file s kept → Closes s kept image (on_taken f (λ file. told_answer file (length image))) (image_of f image)
  closes e = record { said = ap (λ (f : Result (List ℕ)). on_taken f (λ file. told_answer file (length image))) e; drawn = ap (λ (f : Result (List ℕ)). image_of f image) e }

  -- after the close
  pub closes-closed : s.closed ≢ 0 → Closes s kept image (refused (refuse 18 0)) image
  unfolding session_file on_taken image_of
  closes-closed c = closes (need-unmet _ _ _ (ne_eqb s.closed 0 c))

  -- of an open session
  module _ (o : s.closed ≡ 0) where
    opens : {f rest : Result (List ℕ)} → f ≡ rest → f ≡ need (is_open s) (refused (refuse 18 0)) rest
    opens e = need-met _ _ _ (eq-eqb s.closed 0 o) e

    pub closes-long : max_bytes < s.total → Closes s kept image (refused (refuse 1 0)) image
    unfolding session_file on_taken image_of
    closes-long l = closes (opens (need-unmet _ _ _ (omega tests)))

    pub closes-short : s.total ≤ max_bytes → length kept < s.total → Closes s kept image (refused (refuse 17 0)) image
    unfolding session_file on_taken image_of
    closes-short m l = closes (opens (need-met _ _ _ (omega tests) (need-unmet _ _ _ (omega tests))))

    pub closes-file : s.total ≤ max_bytes → s.total ≤ length kept → Closes s kept image (told_answer (take s.total kept) (length image)) (image_after (take s.total kept) image)
    unfolding session_file on_taken image_of
    closes-file m l = closes (opens (need-met _ _ _ (omega tests) (need-met _ _ _ (omega tests) refl)))

-- ---- a refusal

-- it leaves a buffer as it came
refused-keeps : {A : Type 0} (code : ℕ) (made : Result (Output A)) (buffer : List ℕ) (r : Refusal) → answer_in code (length buffer) made ≡ refused r → buffer_after made buffer ≡ buffer
unfolding answer_in buffer_after on_taken need choose
refused-keeps code (refused f) buffer r e = refl
refused-keeps {A} code (taken o) buffer r e = at (leb (length o.bytes) (length buffer)) e
  where
    at : (b : Bool) → need {A = Result A} b (refused (refuse code 0)) (taken o.told) ≡ refused r → choose b (put_at buffer 0 o.bytes) buffer ≡ buffer
    at true q = refused-taken (sym q)
    at false q = refl

told-refused : (bytes image : List ℕ) (r : Refusal) → told_answer bytes (length image) ≡ refused r → image_after bytes image ≡ image
unfolding told_answer answer on_taken
told-refused bytes image r e = at (answer bytes (length image)) refl e
  where
    at : (x : Result Report) → answer_in 15 (length image) (judged bytes) ≡ x → on_taken x (λ a. taken (judged_of a)) ≡ refused r → image_after bytes image ≡ image
    at (refused f) q p = refused-keeps 15 (judged bytes) image f q
    at (taken a) q p = refused-taken (sym p)

pub refusal-keeps-image : (s : Session) (kept image : List ℕ) → RefusalKeepsImage s kept image
unfolding on_taken image_of
refusal-keeps-image s kept image r e = at (session_file s kept) e
  where
    at : (f : Result (List ℕ)) → on_taken f (λ file. told_answer file (length image)) ≡ refused r → image_of f image ≡ image
    at (refused x) q = refl
    at (taken file) q = told-refused file image r q

-- ---- a record that has taken some bytes

-- a file of more bytes is refused as too long, whatever they are
long-refused : (bytes : List ℕ) → max_bytes < length bytes → accept bytes ≡ refused (refuse 1 0)
unfolding accept decode on_taken
long-refused bytes l =
    ap (λ (d : Result Trace). on_taken d (λ t. unless (meaningless t) t))
    (sym (need-met _ _ _ (omega tests) (need-unmet _ _ _ (omega tests))))

long-claims : (C : Trace → Type 0) (bytes : List ℕ) → max_bytes < length bytes → (t : Trace) → accept bytes ≡ taken t → C t
long-claims C bytes l t e = refused-taken (sym (long-refused bytes l) ∙ e)

-- the answer and the image
joined-answer : (s : Session) (kept image bytes : List ℕ) → Has bytes s kept → RoomFor bytes kept
    → (close_answer s kept (length image) ≡ told_answer bytes (length image)) × (close_image s kept image ≡ image_after bytes image)
joined-answer s kept image bytes h room =
    ⊎_elim
    (λ (l : max_bytes < length bytes).
    let c = closes-long s kept image h.is_open (has-beyond bytes s kept h l) in
    let a = refused-answer bytes image (refuse 1 0) (long-refused bytes l) in
    (sym c.said ∙ a.said, sym c.drawn ∙ a.drawn))
    (λ (l : length bytes ≤ max_bytes).
    let (e, same) = has_within bytes s kept h l (room l) in
    let c = closes-file s kept image h.is_open (omega arith) (omega (arith, room l)) in
    (sym c.said ∙ ap (λ (f : List ℕ). told_answer f (length image)) same, sym c.drawn ∙ ap (λ (f : List ℕ). image_after f image) same))
    (lt-or-le max_bytes (length bytes))

-- what is claimed of any taken trace: the bytes that were kept are bytes, and of more than a file may have nothing is claimed
bytes_take : (n : ℕ) (s : List ℕ) → Bytes s → Bytes (take n s)
bytes_take n s b i =
    ⊎_elim
    (λ (l : i < n). subst (λ (x : ℕ). x < 256) (sym (get_or-take n s i 0 l)) (b i))
    (λ (l : n ≤ i). subst (λ (x : ℕ). x < 256) (sym (get_or-eq_default (take n s) 0 (omega (arith, length-take n s)))) (omega arith))
    (lt-or-le i n)

joined-claims : (C : Trace → Type 0) → ((bytes : List ℕ) → Bytes bytes → (t : Trace) → accept bytes ≡ taken t → C t)
    → (s : Session) (kept bytes : List ℕ) → Bytes kept → Has bytes s kept → RoomFor bytes kept → (t : Trace) → accept bytes ≡ taken t → C t
joined-claims C claim s kept bytes b h room =
    ⊎_elim
    (λ (l : max_bytes < length bytes). long-claims C bytes l)
    (λ (l : length bytes ≤ max_bytes). claim bytes (subst Bytes (has_within bytes s kept h l (room l)).1 (bytes_take s.total kept b)))
    (lt-or-le max_bytes (length bytes))

pub judges-joined : (s : Session) (kept image : List ℕ) → Bytes kept → JudgesJoined s kept image
judges-joined s kept image b bytes h room =
    let a = joined-answer s kept image bytes h room in
    (a.0, a.1, joined-claims Claim demand3 s kept bytes b h room, joined-claims Recorded image-says s kept bytes b h room)

-- a record that was opened, and any pieces pushed to it, with a buffer that has room for a file: the close answers as `judge` does for the joined bytes
pub wherever-cut : (kept image : List ℕ) → max_bytes ≤ length kept → (ps : List (List ℕ))
    → let t = after_pieces (record { session = opened; kept = kept }) ps in
    (close_answer t.session t.kept (length image) ≡ told_answer (joined ps) (length image))
    × (close_image t.session t.kept image ≡ image_after (joined ps) image)
wherever-cut kept image l ps =
    let start : State = record { session = opened; kept = kept } in
    let t = after_pieces start ps in
    joined-answer t.session t.kept image (joined ps) (has-pieces [] start ps (has-opened kept)) (λ m. omega (arith, length-pieces start ps))
