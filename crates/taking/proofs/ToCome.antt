-- The records of a file in form, one after another: those that are to come, and what comes of the first of them. Assumes nothing.
use Prim.Native.Nat.{ℕ, ◌+◌, ◌-◌, ◌≤◌, ◌<◌}
use mathlib.Core.Path.{◌≡◌, refl, sym, ap, ◌∙◌, subst}
use mathlib.Core.List.{List, [], ◌∷◌}
use lib.ListN.{length}
use Rattle.endian.specs.Endian.{Bytes}
use Rattle.store.specs.Limits.{max_clients, min_bytes}
use Rattle.store.specs.Store.{Configuration, opening, Event}
use Rattle.store.specs.Update.{step}
use Rattle.trace.specs.Result.{taken}
use Rattle.trace.specs.Entry.{Entry, event, events_of}
use Rattle.trace.specs.Format.{Trace, commits_with, entries_from, decode}
use Rattle.trace.specs.Meaning.{read_whole, entry_of, reading_of, RecordSays, InFormAt, header_of, WholeFile}
use Rattle.trace.specs.declared.form.Header.{Header}
use Rattle.trace.specs.declared.records.Record.{Record}
use Rattle.trace.proofs.Result.{taken-injective}
use Rattle.trace.proofs.Decoded.{ReadAt, record-read}
use Rattle.trace.proofs.InForm.{first-in-form, entries-first, nothing_left}
use Rattle.run.specs.OneRecord.{Readable}
use Rattle.run.proofs.OneRecord.{record-readable}
use Rattle.taking.proofs.InForm.{trace_in}

-- a file in form is read as no other trace
pub only-trace : {file : List ℕ} {h : Header} (w : WholeFile file h) (t : Trace) → decode file ≡ taken t → trace_in w ≡ t
only-trace w t d = taken-injective (sym w.decoded ∙ d)

-- of the records of a file in form `left` are to come, the first at `at`, and they mean es where those before them left g; `made` commits came
-- before them
pub record ToCome (file : List ℕ) (h : Header) (left at made : ℕ) (g : Configuration) (es : List Event) : Type 0 where
  pub index : ℕ
  pub entries : List Entry
  pub read : entries_from file (header_of h) left at index made ≡ taken entries
  pub mean : es ≡ events_of g entries

-- at the start all are
pub all-to-come : {file : List ℕ} {h : Header} (w : WholeFile file h) → ToCome file h h.records min_bytes 0 (opening h.keys) (trace_in w).events
all-to-come {file} {h} w = record { index = 1; entries = w.entries; read = w.read; mean = refl }

-- what comes of the first of the records to come
pub record Turn (file : List ℕ) (h : Header) (left at made : ℕ) (g : Configuration) (es : List Event) (r : Record) (next : ℕ) : Type 0 where
  pub others : List Event
  pub is-first : es ≡ event g (entry_of file h.keys r) ∷ others
  pub to-come : ToCome file h (left - 1) next (commits_with (entry_of file h.keys r) made) (step g (event g (entry_of file h.keys r))) others
  pub within : next ≤ length file
  pub readable : Readable file h.keys made r

module _ {file : List ℕ} {h : Header} {left at made : ℕ} {g : Configuration} {es : List Event} (s : ToCome file h left at made g es) where
  -- at the end none is
  pub none-to-come : left ≡ 0 → es ≡ []
  unfolding events_of
  none-to-come e = s.mean ∙ ap (events_of g) (nothing_left file (header_of h) at s.index made left s.entries e s.read)

  -- the first is in form
  pub in-form : 0 < left → InFormAt file at h.keys h.clients
  in-form some_left = first-in-form file (header_of h) at s.index made left some_left s.read

  -- where it was read again, the others follow it
  pub turn : Bytes file → h.clients ≤ max_clients → 0 < left → (r : Record) (next : ℕ) → RecordSays file at h.keys h.clients (read_whole r next)
      → Turn file h left at made g es r next
  unfolding reading_of events_of
  turn bytes few some_left r next says =
      let x = entry_of file h.keys r in
      let first = entries-first file (header_of h) at s.index made left some_left s.read x next (says.0 h.records) in
      let again : ReadAt file (header_of h) (reading_of file h.keys (read_whole r next)) = subst (ReadAt file (header_of h)) (sym (says.0 h.records)) (record-read file bytes (header_of h) at) in
      record {
        others = events_of (step g (event g x)) first.others;
        is-first = s.mean ∙ ap (events_of g) first.is-first;
        to-come = record { index = s.index + 1; entries = first.others; read = first.others-read; mean = refl };
        within = again.1;
        readable = record-readable file bytes at h.keys h.clients made r next few says first.few-commits;
      }
