-- A file that was written in an edition from a taken one is taken as the same trace, so that it gets the same answer and image, and is written
-- again as the other would be. Assumes nothing.
use Prim.Native.Nat.{ℕ, ◌≤◌, ◌<◌}
use mathlib.Core.Path.{◌≡◌, sym, ap, ◌∙◌, subst}
use mathlib.Core.Option.{Option}
use mathlib.Core.List.{List}
use native.Mathlib.Omega.{arith}
use lib.Dec.{T, leb, leb→le, le→leb, not_T}
use lib.ListN.{length, take}
use Rattle.search.proofs.Choose.{need-yes, need-no, need-taken}
use Rattle.endian.specs.Endian.{Bytes}
use Rattle.store.specs.Limits.{max_bytes}
use Rattle.store.specs.Refusal.{Refusal, refuse}
use Rattle.store.specs.Image.{image}
use Rattle.trace.specs.Result.{Result, refused, taken, on_taken}
use Rattle.trace.specs.Format.{Trace}
use Rattle.trace.specs.Edition.{Edition, long, encode_in, only_long}
use Rattle.trace.proofs.Result.{refused-taken, taken-injective, on_taken-taken}
use Rattle.trace.proofs.Decoded.{decoded-well-formed, decoded-length}
use Rattle.trace.proofs.Edition.{long-file, decode-encode_in}
use Rattle.trace.proofs.Again.{encode-decode}
use Rattle.answer.specs.Output.{Output, file_made, answer_in, buffer_after}
use Rattle.answer.specs.Answer.{Report, final_store, meaningless, unless, accept, report, judged, answer}
use Rattle.answer.specs.Converted.{converted, convert_answer, convert_after, SameFile, WrittenSame}
use Rattle.answer.proofs.Output.{answered-made, stands-written}
use Rattle.answer.proofs.Demand3.{accepted-trace, taken-run}

-- ---- a file as what is made

module _ (file : List ℕ) where
  abbrev pub made : Output ℕ
  made = record { told = length file; bytes = file }

  -- it is not too long
  pub file-fits : length file ≤ max_bytes → file_made file ≡ taken made
  unfolding file_made
  file-fits l = need-yes (leb (length file) max_bytes) _ _ (le→leb (length file) max_bytes l)

  -- or it is
  pub file-long : max_bytes < length file → file_made file ≡ refused (refuse 22 0)
  unfolding file_made
  file-long l = need-no (leb (length file) max_bytes) _ _ (not_T (leb (length file) max_bytes) (λ x. let y = leb→le (length file) max_bytes x in omega arith))

  -- where something was made, it is this file
  made-file : (o : Output ℕ) → file_made file ≡ taken o → (o ≡ made) × (length file ≤ max_bytes)
  unfolding file_made
  made-file o e = let (fits, same) = need-taken (leb (length file) max_bytes) _ _ refused-taken e in (sym (taken-injective same), leb→le (length file) max_bytes fits)

-- ---- the same trace

-- what is written for a taken trace is taken as it
written-taken : (x : Edition) (bytes : List ℕ) → Bytes bytes → (t : Trace) → accept bytes ≡ taken t → length (encode_in x t) ≤ max_bytes → accept (encode_in x t) ≡ taken t
unfolding accept on_taken unless
written-taken x bytes b t a few =
    let (read, meant) = accepted-trace bytes t a in
    let w = decoded-well-formed bytes b t read in
    let back = decode-encode_in x t w (taken-run t w meant).legal few in
    ap (λ (r : Result Trace). on_taken r (λ u. unless (meaningless u) u)) back
    ∙ ap (λ (o : Option Refusal). unless o t) meant

-- a file of kinds 2 and 3 that is taken is the long file of its trace
long-itself : (bytes : List ℕ) → Bytes bytes → (t : Trace) → accept bytes ≡ taken t → T (only_long bytes) → encode_in long t ≡ bytes
long-itself bytes b t a only = long-file t ∙ encode-decode bytes b t (accepted-trace bytes t a).0 only

-- files that are taken as one trace
same-file : (bytes file : List ℕ) → Bytes bytes → (t : Trace) → accept bytes ≡ taken t → accept file ≡ accept bytes → SameFile bytes file
unfolding answer judged converted on_taken
same-file bytes file b t a same =
    let judges : judged file ≡ judged bytes = ap (λ (x : Result Trace). on_taken x (λ (u : Trace). taken (record { told = report u; bytes = image (final_store u) }))) same in
    record {
      same_answer = λ room. ap (answer_in 15 room) judges;
      same-image = λ buffer. ap (λ (x : Result (Output Report)). buffer_after x buffer) judges;
      same-again = λ x. ap (λ (y : Result Trace). on_taken y (λ (u : Trace). file_made (encode_in x u))) same;
      long-again = λ only.
          ap (λ (y : Result Trace). on_taken y (λ (u : Trace). file_made (encode_in long u))) (same ∙ a)
          ∙ ap file_made (long-itself bytes b t a only)
          ∙ file-fits bytes (decoded-length bytes b t (accepted-trace bytes t a).0).1;
    }

-- ---- what is promised of what was written

-- where n bytes were answered, they are the trace's file in the edition, and there was room for them
record Wrote (x : Edition) (bytes : List ℕ) (room n : ℕ) : Type 0 where
  trace : Trace
  accepted : accept bytes ≡ taken trace
  is_made : converted x bytes ≡ taken (made (encode_in x trace))
  few : length (encode_in x trace) ≤ max_bytes
  size : length (encode_in x trace) ≡ n
  fits : length (encode_in x trace) ≤ room

wrote : (x : Edition) (bytes : List ℕ) (room n : ℕ) → convert_answer x bytes room ≡ taken n → Wrote x bytes room n
unfolding convert_answer converted
wrote x bytes room n e =
    let (o, is, told, fits) = answered-made 17 (converted x bytes) room n e in
    let (t, read, from) = on_taken-taken (accept bytes) (λ (u : Trace). file_made (encode_in x u)) is in
    let (same, few) = made-file (encode_in x t) o from in
    record {
      trace = t;
      accepted = read;
      is_made = is ∙ ap taken same;
      few = few;
      size = ap (λ (p : Output ℕ). p.told) (sym same) ∙ told;
      fits = subst (λ (p : Output ℕ). length p.bytes ≤ room) same fits;
    }

pub written_same : (x : Edition) (bytes : List ℕ) → Bytes bytes → (buffer : List ℕ) → WrittenSame x bytes (length buffer) (convert_after x bytes buffer)
written_same x bytes b buffer n e =
    let w = wrote x bytes (length buffer) n e in
    let file : take n (convert_after x bytes buffer) ≡ encode_in x w.trace =
    ap (λ (m : ℕ). take m (convert_after x bytes buffer)) (sym w.size) ∙ stands-written (converted x bytes) buffer _ w.is_made w.fits in
    same-file bytes _ b w.trace w.accepted (ap accept file ∙ written-taken x bytes b w.trace w.accepted w.few ∙ sym w.accepted)

-- it has its place within the buffer
pub written-within : (x : Edition) (bytes : List ℕ) (room n : ℕ) → convert_answer x bytes room ≡ taken n → n ≤ room
written-within x bytes room n e = let w = wrote x bytes room n e in subst (λ (m : ℕ). m ≤ room) w.size w.fits
