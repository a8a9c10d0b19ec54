-- What the definitions answer in each of the cases that the call comes to. Assumes nothing.
use Prim.Native.Nat.{ℕ, ◌+◌, ◌*◌, ◌≤◌, ◌<◌}
use mathlib.Core.Path.{◌≡◌, refl, sym, ap, ◌∙◌}
use mathlib.Core.Option.{Option, some, none}
use mathlib.Core.List.{List}
use native.Mathlib.Omega.{arith}
use lib.ListN.{length, get_or}
use Rattle.search.specs.Choose.{map_some}
use Rattle.search.proofs.Tests.{some-none, map-none}
use Rattle.endian.specs.Endian.{put_at}
use Rattle.endian.proofs.Put.{put_next}
use Rattle.store.specs.Limits.{min_bytes}
use Rattle.store.specs.Store.{opening_store, opening}
use Rattle.store.specs.Refusal.{Refusal, refuse, refuse_place}
use Rattle.store.proofs.Run.{final-commits}
use Rattle.trace.specs.Result.{refused, taken, on_taken}
use Rattle.trace.specs.Format.{Trace, decode}
use Rattle.trace.specs.Encode.{events_bytes, file_head, encode}
use Rattle.trace.specs.Meaning.{WholeFile}
use Rattle.trace.specs.declared.form.Header.{Header}
use Rattle.trace.proofs.Sizes.{length-file_head, length-file_of}
use Rattle.levels.specs.Level.{Level, SER, Failure}
use Rattle.answer.specs.Output.{Output, answer_in}
use Rattle.answer.specs.Answer.{final_store, accept, verdict}
use Rattle.answer.specs.Replay.{replay_trace, replay}
use Rattle.answer.specs.Written.{not_serial, written, replay_answer}
use Rattle.answer.proofs.Output.{Ends, ends-refused, ends-short, ends-written}
use Rattle.answer.proofs.Written.{serial-written, not-serial}
use Rattle.answer.proofs.ReplayFile.{replay-records}
use Rattle.verdicts.specs.Told.{Told, tell, tell_all, verdict_of, verdicts_of}
use Rattle.verdicts.specs.declared.told.Verdicts.{Verdicts}
use Rattle.taking.specs.Taking.{Takes}
use Rattle.taking.proofs.ToCome.{only-trace}
use Rattle.replaying.specs.Answers.{Ending}

-- ---- the verdict that was told

-- a failure that was told is one that there is
told-refused : (o : Option Failure) (x : Told) → some x ≡ map_some tell o → (f : Failure) × (o ≡ some f) × (x ≡ tell f)
unfolding map_some
told-refused none x e = some-none e
told-refused (some f) x e = let same : x ≡ tell f = cc in (f, refl, same)

-- SER is the last of the levels
ser-told : (vs : Verdicts) (fs : Level → Option Failure) → verdicts_of vs ≡ tell_all fs → verdict_of vs.ser ≡ map_some tell (fs SER)
ser-told vs fs e = ap (λ (l : List (Option Told)). get_or l 9 none) e

-- what the ending is given
pub ends_with : {bytes : List ℕ} {t : Trace} {versions keys commits views : List ℕ} {h : Header} {count : ℕ} {vs : Verdicts} → Takes bytes t versions keys commits views h count vs → Ending bytes h count vs
ends_with {t = t} {vs = vs} k = record {
  trace = t;
  in-form = k.in-form;
  accepted = k.accepted;
  all-commits = k.all-commits;
  few-commits = k.few-commits;
  told = ser-told vs (λ l. verdict l t) k.told;
}

-- ---- what the call comes to

module _ (bytes buffer : List ℕ) where
  -- a file that is not accepted: the refusal
  pub refused-replay : (r : Refusal) → accept bytes ≡ refused r → Ends 17 (written bytes) buffer (refused r) buffer
  unfolding written on_taken
  refused-replay r e = ends-refused 17 buffer r (rw e refl)

  module _ (t : Trace) (e : accept bytes ≡ taken t) where
    -- code 16, with what was told of SER
    pub not-serial-replay : (x : Told) → some x ≡ map_some tell (verdict SER t)
        → Ends 17 (written bytes) buffer (refused (refuse_place 16 x.at_record (record { key = x.key; version = x.version }))) buffer
    unfolding written on_taken
    not-serial-replay x told =
        let (f, is, same) = told-refused (verdict SER t) x told in
        rw same (ends-refused 17 buffer _ (rw e (not-serial t f is)))

    -- "code 17, checked after 16": however short the buffer is
    pub sixteen-first : (f : Failure) → verdict SER t ≡ some f → (room : ℕ) → replay_answer bytes room ≡ refused (not_serial f)
    unfolding replay_answer written answer_in on_taken
    sixteen-first f is room = rw (e, not-serial t f is) refl

    module _ (told : none ≡ map_some tell (verdict SER t)) where
      abbrev output : Output ℕ
      output = record { told = length (replay t); bytes = replay t }

      serial : written bytes ≡ taken output
      unfolding written on_taken
      serial = rw e (serial-written t ((map-none tell (verdict SER t)).0 (sym told)))

      -- code 17, where the buffer is too short
      pub short-replay : length buffer < length (replay t) → Ends 17 (written bytes) buffer (refused (refuse 17 0)) buffer
      short-replay l = ends-short 17 buffer output serial l

      -- the length of the file, and the file at the start of the buffer
      pub written-replay : length (replay t) ≤ length buffer → Ends 17 (written bytes) buffer (taken (length (replay t))) (put_at buffer 0 (replay t))
      written-replay l = ends-written 17 buffer output serial l

-- ---- the file

-- it has its first bytes at least
pub replay-least : (t : Trace) → min_bytes ≤ length (replay t)
unfolding replay encode
replay-least t = let size = length-file_of (replay_trace t).keys (replay_trace t).clients (length (replay_trace t).events) (events_bytes (replay_trace t).keys (replay_trace t).events) in omega arith

-- its first bytes and its records, put one behind the other, are the replay
pub put-replay : {file : List ℕ} {h : Header} (w : WholeFile file h) (t : Trace) → decode file ≡ taken t → {whole count : ℕ} → whole ≡ length (replay t) → (final_store t).commits ≡ count
    → (buffer : List ℕ) {one two : List ℕ} → length (replay t) ≤ length buffer
    → one ≡ put_at buffer 0 (file_head whole h.keys h.clients (2 * count)) → two ≡ put_at one min_bytes (events_bytes t.keys (replay_trace t).events)
    → two ≡ put_at buffer 0 (replay t)
unfolding replay encode replay_trace opening opening_store
put-replay {file} {h} w t d {whole} {count} size commits buffer room p q =
    let body = events_bytes t.keys (replay_trace t).events in
    let records = length (replay_trace t).events in
    let long = length-file_of t.keys t.clients records body in
    let keys : h.keys ≡ t.keys = ap (λ (x : Trace). x.keys) (only-trace w t d) in
    let clients : h.clients ≡ t.clients = ap (λ (x : Trace). x.clients) (only-trace w t d) in
    let all : whole ≡ min_bytes + length body = omega arith in
    let twice : 2 * count ≡ records = omega (arith, replay-records (opening t.keys) t.events, final-commits (opening t.keys) t.events) in
    let head : file_head whole h.keys h.clients (2 * count) ≡ file_head (min_bytes + length body) t.keys t.clients records = rw (keys, clients, all, twice) refl in
    put_next buffer 0 min_bytes min_bytes (file_head (min_bytes + length body) t.keys t.clients records) body (p ∙ ap (put_at buffer 0) head)
    (length-file_head (min_bytes + length body) t.keys t.clients records) refl (omega arith) q
