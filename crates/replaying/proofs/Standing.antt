-- Where the writing of a replay, and the reckoning of its length, stand before a record: how they begin, go on and end. Assumes nothing.
use Prim.Native.Nat.{ℕ, ◌+◌, ◌-◌, ◌≤◌, ◌<◌}
use mathlib.Core.Path.{◌≡◌, sym, ap, ◌∙◌, subst}
use mathlib.Core.List.{List, []}
use native.Mathlib.Omega.{arith}
use lib.ListN.{length, replicate}
use Rattle.endian.specs.Endian.{Bytes, put_at}
use Rattle.endian.proofs.Put.{put-none, put_then}
use Rattle.store.specs.Limits.{max_keys, max_clients, min_bytes, max_replay}
use Rattle.store.specs.Store.{Configuration, opening_store, opening, Event}
use Rattle.store.specs.Update.{step, final}
use Rattle.trace.specs.Result.{taken}
use Rattle.trace.specs.Entry.{event}
use Rattle.trace.specs.Format.{Trace, decode}
use Rattle.trace.specs.Encode.{events_bytes}
use Rattle.trace.specs.Meaning.{read_whole, entry_of, RecordSays, InFormAt, WholeFile}
use Rattle.trace.specs.declared.form.Header.{Header}
use Rattle.trace.specs.declared.records.Record.{Record}
use Rattle.trace.proofs.Sizes.{events_length, length-events_bytes, length-encode}
use Rattle.trace.proofs.Decoded.{decoded-well-formed}
use Rattle.answer.specs.Replay.{replay_step, replay_events, replay_trace, replay}
use Rattle.answer.proofs.ReplayFile.{replay-longest}
use Rattle.taking.proofs.InForm.{trace_in}
use Rattle.replaying.specs.Full.{Full, Wrote, replay_length}
use Rattle.taking.proofs.ToCome.{only-trace, ToCome, Turn, all-to-come, none-to-come, in-form, turn}
use Rattle.replaying.proofs.Turns.{length-step, bytes-first, length-first, commits-step}
use Rattle.replaying.proofs.Full.{full-opening}

-- the records to come of a file in form, with the configuration that those before them left, and the one that their replay has come to
pub record Going (file : List ℕ) (h : Header) (left at : ℕ) : Type 0 where
  pub g : Configuration
  pub r : Configuration
  pub es : List Event
  pub to-come : ToCome file h left at r.store.commits g es

-- what the replay still has to come
abbrev rest : {file : List ℕ} {h : Header} {left at : ℕ} → Going file h left at → List Event
rest s = replay_events s.r s.es

pub goes-from : {file : List ℕ} {h : Header} → WholeFile file h → Going file h h.records min_bytes
unfolding opening opening_store
goes-from {file} {h} w = record { g = opening h.keys; r = opening h.keys; es = (trace_in w).events; to-come = all-to-come w }

module _ {file : List ℕ} {h : Header} {left at : ℕ} (s : Going file h left at) where
  -- nothing is to come at the end
  pub rest-none : left ≡ 0 → rest s ≡ []
  unfolding replay_events
  rest-none e = ap (replay_events s.r) (none-to-come s.to-come e)

  pub first-in-form : 0 < left → InFormAt file at h.keys h.clients
  first-in-form some_left = in-form s.to-come some_left

  module _ (bytes : Bytes file) (few : h.clients ≤ max_clients) (some_left : 0 < left) (x : Record) (next : ℕ) (says : RecordSays file at h.keys h.clients (read_whole x next)) where
    -- the record at hand
    pub this : Turn file h left at s.r.store.commits s.g s.es x next
    this = turn s.to-come bytes few some_left x next says

    abbrev meant : Event
    meant = event s.g (entry_of file h.keys x)

    -- what the replay has for it
    abbrev own : List Event
    own = replay_step s.r meant

    abbrev pub goes_on : Going file h (left - 1) next
    goes_on = record {
      g = step s.g meant;
      r = final s.r own;
      es = this.others;
      to-come = subst (λ (m : ℕ). ToCome file h (left - 1) next m (step s.g meant) this.others) (sym (commits-step file h.keys s.r s.g x)) this.to-come;
    }

    -- and what is to come after it
    length-own : length (events_bytes h.keys own) ≡ replay_length h.keys x
    length-own = length-events_bytes h.keys own ∙ length-step file h.keys s.r s.g x

    pub length-on : events_length h.keys (rest s) ≡ replay_length h.keys x + events_length h.keys (rest goes_on)
    length-on =
        let first = length-first h.keys s.r meant this.is-first in
        let own-length = length-step file h.keys s.r s.g x in
        omega arith

    -- bytes put for it, and then those to come, are those that were to come
    put_on : {buffer after masks : List ℕ} {to : ℕ} → to + events_length h.keys (rest s) ≤ length buffer
        → Wrote h.keys s.r meant to buffer after masks
        → put_at after (to + replay_length h.keys x) (events_bytes h.keys (rest goes_on)) ≡ put_at buffer to (events_bytes h.keys (rest s))
    put_on {buffer} {after} {masks} {to} room wrote =
        let size = replay_length h.keys x in
        let others = events_bytes h.keys (rest goes_on) in
        ap (λ (l : List ℕ). put_at l (to + size) others) wrote.put
        ∙ put_then buffer to (events_bytes h.keys own) others size length-own (omega (arith, length-on))
        ∙ ap (put_at buffer to) (sym (bytes-first h.keys s.r meant this.is-first))

-- ---- the length

-- so many bytes are reckoned, and those to come with them are all
pub record Reckoned (file : List ℕ) (h : Header) (t : Trace) (left at sum : ℕ) : Type 0 where
  pub going : Going file h left at
  pub total : sum + events_length h.keys (rest going) ≡ length (replay t)

-- the file of a replay is its first bytes, and its records
length-replay : {file : List ℕ} {h : Header} (w : WholeFile file h) (t : Trace) → decode file ≡ taken t → min_bytes + events_length h.keys (rest (goes-from w)) ≡ length (replay t)
unfolding replay replay_trace goes-from
length-replay w t d = sym (length-encode (replay_trace (trace_in w))) ∙ ap (λ (x : Trace). length (replay x)) (only-trace w t d)

pub reckoned-first : {file : List ℕ} {h : Header} (w : WholeFile file h) (t : Trace) → decode file ≡ taken t → Reckoned file h t h.records min_bytes min_bytes
reckoned-first w t d = record { going = goes-from w; total = length-replay w t d }

-- what is reckoned is never more than the longest replay
pub reckoned-few : {file : List ℕ} → Bytes file → {h : Header} {t : Trace} {left at sum : ℕ} → decode file ≡ taken t → (s : Reckoned file h t left at sum)
    → sum + events_length h.keys (rest s.going) ≤ max_replay
reckoned-few {file} bytes {t = t} d s = subst (λ (m : ℕ). m ≤ max_replay) (sym s.total) (replay-longest t (decoded-well-formed file bytes t d))

pub reckoned-all : {file : List ℕ} {h : Header} {t : Trace} {left at sum : ℕ} → left ≡ 0 → Reckoned file h t left at sum → sum ≡ length (replay t)
unfolding events_length
reckoned-all {h = h} {sum = sum} e s =
    let none : events_length h.keys (rest s.going) ≡ 0 = ap (events_length h.keys) (rest-none s.going e) in
    let all = s.total in
    omega arith

-- ---- the bytes

-- so many bytes are written, and with those to come all are; the masks are those of the full view that the replay has come to
pub record Written (file start : List ℕ) (h : Header) (t : Trace) (left at to : ℕ) (buffer masks : List ℕ) : Type 0 where
  pub going : Going file h left at
  pub full : Full going.r.store h.keys masks
  pub room : to + events_length h.keys (rest going) ≤ length buffer
  pub all : put_at buffer to (events_bytes h.keys (rest going)) ≡ put_at start min_bytes (events_bytes t.keys (replay_trace t).events)

pub written-first : {file : List ℕ} {h : Header} (w : WholeFile file h) (t : Trace) → decode file ≡ taken t → (start : List ℕ) → length (replay t) ≤ length start
    → Written file start h t h.records min_bytes min_bytes start (replicate max_keys 1)
unfolding goes-from replay_trace
written-first {file} {h} w t d start room = record {
  going = goes-from w;
  full = full-opening h.keys w.few-keys;
  room = subst (λ (m : ℕ). m ≤ length start) (sym (length-replay w t d)) room;
  all = ap (λ (x : Trace). put_at start min_bytes (events_bytes x.keys (replay_trace x).events)) (only-trace w t d);
}

-- a record more
pub written_on : {file start : List ℕ} {h : Header} {t : Trace} {left at to : ℕ} {buffer masks : List ℕ} (s : Written file start h t left at to buffer masks)
    (bytes : Bytes file) (few : h.clients ≤ max_clients) (some_left : 0 < left) (x : Record) (next : ℕ) (says : RecordSays file at h.keys h.clients (read_whole x next))
    → {after grown : List ℕ} {end : ℕ} → ((g r : Configuration) → Full r.store h.keys masks → Wrote h.keys r (event g (entry_of file h.keys x)) to buffer after grown)
    → end ≡ to + replay_length h.keys x → length after ≡ length buffer → Written file start h t (left - 1) next end after grown
written_on {h = h} {buffer = buffer} s bytes few some_left x next says {after} wrote e same =
    let one = wrote s.going.g s.going.r s.full in
    let on = goes_on s.going bytes few some_left x next says in
    record {
      going = on;
      full = one.full;
      room = omega (arith, s.room, length-on s.going bytes few some_left x next says);
      all = ap (λ (k : ℕ). put_at after k (events_bytes h.keys (rest on))) e ∙ put_on s.going bytes few some_left x next says s.room one ∙ s.all;
    }

pub written_all : {file start : List ℕ} {h : Header} {t : Trace} {left at to : ℕ} {buffer masks : List ℕ} → left ≡ 0 → Written file start h t left at to buffer masks
    → buffer ≡ put_at start min_bytes (events_bytes t.keys (replay_trace t).events)
unfolding events_bytes
written_all {h = h} {to = to} {buffer = buffer} e s =
    put-none buffer to ∙ ap (λ (l : List Event). put_at buffer to (events_bytes h.keys l)) (sym (rest-none s.going e)) ∙ s.all
