-- What the definitions answer in each of the cases that a call comes to. Assumes nothing.
use Prim.Native.Nat.{ℕ, ◌+◌, ◌≤◌, ◌<◌}
use mathlib.Core.Path.{◌≡◌, refl, sym, ap, ◌∙◌}
use mathlib.Core.List.{List}
use native.Mathlib.Omega.{arith}
use lib.ListN.{length}
use Rattle.endian.specs.Endian.{put_at}
use Rattle.endian.proofs.Put.{put_next}
use Rattle.store.specs.Limits.{min_bytes, max_bytes}
use Rattle.store.specs.Store.{opening}
use Rattle.store.specs.Refusal.{Refusal, refuse}
use Rattle.trace.specs.Result.{refused, taken, on_taken}
use Rattle.trace.specs.Format.{Trace, decode}
use Rattle.trace.specs.Encode.{file_head}
use Rattle.trace.specs.Edition.{Edition, records_bytes, encode_in}
use Rattle.trace.specs.Meaning.{WholeFile}
use Rattle.trace.specs.declared.form.Header.{Header}
use Rattle.trace.proofs.Sizes.{length-file_head, length-file_of}
use Rattle.answer.specs.Answer.{accept}
use Rattle.answer.specs.Output.{answer_in}
use Rattle.answer.specs.Converted.{converted, convert_answer}
use Rattle.answer.proofs.Output.{Ends, ends-refused, ends-short, ends-written}
use Rattle.answer.proofs.Converted.{made, file-fits, file-long}
use Rattle.verdicts.specs.declared.told.Verdicts.{Verdicts}
use Rattle.taking.specs.Taking.{Takes}
use Rattle.taking.proofs.ToCome.{only-trace}
use Rattle.converting.specs.Answers.{Ending}

-- what the ending is given
pub ends_with : {bytes : List ℕ} {t : Trace} {versions keys commits views : List ℕ} {h : Header} {count : ℕ} {vs : Verdicts} → Takes bytes t versions keys commits views h count vs → Ending bytes h
ends_with {t = t} k = record { trace = t; in-form = k.in-form; accepted = k.accepted; all-records = k.all-records }

module _ (e : Edition) (bytes buffer : List ℕ) where
  -- a file that is not accepted: the refusal
  pub refused-file : (r : Refusal) → accept bytes ≡ refused r → Ends 17 (converted e bytes) buffer (refused r) buffer
  unfolding converted on_taken
  refused-file r is = ends-refused 17 buffer r (rw is refl)

  module _ (t : Trace) (is : accept bytes ≡ taken t) where
    -- code 22, however long the buffer is
    pub long-output : max_bytes < length (encode_in e t) → Ends 17 (converted e bytes) buffer (refused (refuse 22 0)) buffer
    unfolding converted on_taken
    long-output l = ends-refused 17 buffer (refuse 22 0) (rw is (file-long (encode_in e t) l))

    -- "code 22, then a short buffer 17": however short the buffer is
    pub twenty-two-first : max_bytes < length (encode_in e t) → (room : ℕ) → convert_answer e bytes room ≡ refused (refuse 22 0)
    unfolding convert_answer converted answer_in on_taken
    twenty-two-first l room = rw (is, file-long (encode_in e t) l) refl

    module _ (few : length (encode_in e t) ≤ max_bytes) where
      is_made : converted e bytes ≡ taken (made (encode_in e t))
      unfolding converted on_taken
      is_made = rw is (file-fits (encode_in e t) few)

      -- code 17, where the buffer is too short
      pub short-buffer : length buffer < length (encode_in e t) → Ends 17 (converted e bytes) buffer (refused (refuse 17 0)) buffer
      short-buffer l = ends-short 17 buffer (made (encode_in e t)) is_made l

      -- the length of the file, and the file at the start of the buffer
      pub written-file : length (encode_in e t) ≤ length buffer → Ends 17 (converted e bytes) buffer (taken (length (encode_in e t))) (put_at buffer 0 (encode_in e t))
      written-file l = ends-written 17 buffer (made (encode_in e t)) is_made l

-- ---- the file

-- it has its first bytes at least
pub file-least : (e : Edition) (t : Trace) → min_bytes ≤ length (encode_in e t)
unfolding encode_in
file-least e t = let size = length-file_of t.keys t.clients (length t.events) (records_bytes e t.keys (opening t.keys) t.events) in omega arith

-- its first bytes and its records, put one behind the other
pub put-file : (e : Edition) {file : List ℕ} {h : Header} (w : WholeFile file h) (t : Trace) → decode file ≡ taken t → {whole : ℕ} → whole ≡ length (encode_in e t) → length t.events ≡ h.records
    → (buffer : List ℕ) {one two : List ℕ} → length (encode_in e t) ≤ length buffer
    → one ≡ put_at buffer 0 (file_head whole h.keys h.clients h.records) → two ≡ put_at one min_bytes (records_bytes e t.keys (opening t.keys) t.events)
    → two ≡ put_at buffer 0 (encode_in e t)
unfolding encode_in
put-file e {file} {h} w t d {whole} size counted buffer room p q =
    let body = records_bytes e t.keys (opening t.keys) t.events in
    let records = length t.events in
    let long = length-file_of t.keys t.clients records body in
    let keys : h.keys ≡ t.keys = ap (λ (x : Trace). x.keys) (only-trace w t d) in
    let clients : h.clients ≡ t.clients = ap (λ (x : Trace). x.clients) (only-trace w t d) in
    let all : whole ≡ min_bytes + length body = omega arith in
    let head : file_head whole h.keys h.clients h.records ≡ file_head (min_bytes + length body) t.keys t.clients records = rw (keys, clients, all, sym counted) refl in
    put_next buffer 0 min_bytes min_bytes (file_head (min_bytes + length body) t.keys t.clients records) body (p ∙ ap (put_at buffer 0) head)
    (length-file_head (min_bytes + length body) t.keys t.clients records) refl (omega arith) q
