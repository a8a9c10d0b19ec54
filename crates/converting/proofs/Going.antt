-- The records of a file in form, one after another, with the views that those before them left: how this begins, goes on and ends. Assumes nothing.
use Prim.Native.Nat.{ℕ, ◌+◌, ◌-◌, ◌*◌, ◌≤◌, ◌<◌}
use mathlib.Core.Path.{◌≡◌, refl, sym, ap, ◌∙◌, subst}
use mathlib.Core.Logic.{◌≢◌}
use mathlib.Core.List.{List, [], ◌++◌}
use native.Mathlib.Omega.{arith}
use native.Mathlib.Nat.{zero-add}
use lib.ListN.{length, get_or, replicate, length-append}
use Rattle.endian.specs.Endian.{Bytes, put_at}
use Rattle.endian.proofs.Put.{put-none, put_then}
use Rattle.store.specs.Limits.{max_keys, max_clients, min_bytes}
use Rattle.store.specs.Store.{Client, Configuration, opening, opening_store, Event}
use Rattle.store.specs.Update.{update, step}
use Rattle.store.proofs.Updated.{at_same, at_other}
use Rattle.trace.specs.Result.{taken}
use Rattle.trace.specs.Entry.{listed_or, view_meant, event}
use Rattle.trace.specs.Format.{Trace, commits_with, decode}
use Rattle.trace.specs.Meaning.{read_whole, listing_of, entry_of, ListingFits, RecordSays, InFormAt, WholeFile}
use Rattle.trace.specs.Edition.{Edition, records_bytes, encode_in}
use Rattle.trace.specs.declared.form.Header.{Header}
use Rattle.trace.specs.declared.records.Listing.{Listing}
use Rattle.trace.specs.declared.records.Record.{Record}
use Rattle.trace.specs.declared.records.Record.TheVariants.{Shift, Commit}
use Rattle.trace.proofs.Sizes.{length-file_of}
use Rattle.state.specs.Places.{client_rows}
use Rattle.state.specs.Rows.{RowAt}
use Rattle.state.proofs.Opening.{opening-rows}
use Rattle.views.specs.Rows.{Kept}
use Rattle.shifts.proofs.Refused.{masks-filled}
use Rattle.shifts.proofs.Replaced.{kept-rows, rows_replaced}
use Rattle.run.specs.OneRecord.{Readable}
use Rattle.taking.proofs.InForm.{trace_in}
use Rattle.taking.proofs.ToCome.{only-trace, ToCome, Turn, all-to-come, none-to-come, in-form, turn}
use Rattle.converting.specs.Parts.{client_in, listing_in, PartsFit, Meant, ViewRows}
use Rattle.converting.proofs.EitherEdition.{bytes_of}

-- ---- one record

-- its client and what it lists
pub parts-both : (file : List ℕ) (n : ℕ) (x : Record) → PartsFit file n x → (client_in x < max_clients) × ListingFits file n (listing_in x)
parts-both file n (Shift client l) fits = fits
parts-both file n (Commit client count session operations l) fits = (fits.0, fits.1)

pub readable-parts : (file : List ℕ) (n made : ℕ) (x : Record) → Readable file n made x → PartsFit file n x
readable-parts file n made (Shift client l) fits = fits
readable-parts file n made (Commit client count session operations l) fits = (fits.0, fits.1, fits.2)

-- the view of its client after it, and those of the others
own_view : (g : Configuration) (file : List ℕ) (n : ℕ) (x : Record) → (step g (event g (entry_of file n x))).views (client_in x) ≡ view_meant g (client_in x) (listing_of file n (listing_in x))
unfolding step update event entry_of
own_view g file n (Shift client l) = at_same client (view_meant g client (listing_of file n l)) g.views
own_view g file n (Commit client count session operations l) = at_same client (view_meant g client (listing_of file n l)) g.views

other-views : (g : Configuration) (file : List ℕ) (n : ℕ) (x : Record) (d : Client) → d ≢ client_in x → (step g (event g (entry_of file n x))).views d ≡ g.views d
unfolding step update event entry_of
other-views g file n (Shift client l) d other = at_other client (view_meant g client (listing_of file n l)) g.views d other
other-views g file n (Commit client count session operations l) d other = at_other client (view_meant g client (listing_of file n l)) g.views d other

module _ (file : List ℕ) (n : ℕ) (x : Record) (fits : PartsFit file n x) (views fresh : List ℕ) {client : ℕ} {l : Listing} (is-client : client ≡ client_in x) (is-listing : l ≡ listing_in x)
    (long : length fresh ≡ max_keys) (put : (k : ℕ) → k < n → get_or fresh k 0 ≡ listed_or (listing_of file n l k) (get_or views (max_keys * client + k) 0))
    (g : Configuration) (rows : ViewRows g n views) where
  row : RowAt n views (max_keys * client) (g.views (client_in x))
  row k below = ap (λ (d : ℕ). get_or views (max_keys * d + k) 0) is-client ∙ rows (client_in x) (parts-both file n x fits).0 k below

  filled : RowAt n fresh 0 (view_meant g (client_in x) (listing_of file n (listing_in x)))
  filled k below =
      ap (λ (i : ℕ). get_or fresh i 0) (zero-add k)
      ∙ (masks-filled (g.views (client_in x)) (listing_of file n (listing_in x)) n (λ j. get_or views (max_keys * client + j) 0) fresh long row
      (λ j b. put j b ∙ ap (λ (m : Listing). listed_or (listing_of file n m j) (get_or views (max_keys * client + j) 0)) is-listing)).masks k below

  pub meant : Meant g file n x views (max_keys * client) fresh
  meant = record { before = row; after = filled }

  pub rows_on : n ≤ max_keys → {after : List ℕ} → Kept fresh (max_keys * client) n views after → ViewRows (step g (event g (entry_of file n x))) n after
  rows_on few {after} kept =
      rows_replaced g.views (step g (event g (entry_of file n x))).views (client_in x) (view_meant g (client_in x) (listing_of file n (listing_in x))) n
      (own_view g file n x) (other-views g file n x) views after fresh rows filled own.row (λ e be. kept-rows few own e)
    where
      own : Kept fresh (max_keys * client_in x) n views after
      own = subst (λ (d : ℕ). Kept fresh (max_keys * d) n views after) is-client kept

-- ---- all records

-- the records to come, and the views that those before them left
pub record Going (file : List ℕ) (h : Header) (left at : ℕ) (views : List ℕ) : Type 0 where
  pub g : Configuration
  pub made : ℕ
  pub es : List Event
  pub to-come : ToCome file h left at made g es
  pub rows : ViewRows g h.keys views

pub goes-from : {file : List ℕ} {h : Header} → WholeFile file h → Going file h h.records min_bytes (replicate client_rows 1)
unfolding opening opening_store
goes-from {file} {h} w = record {
  g = opening h.keys;
  made = 0;
  es = (trace_in w).events;
  to-come = all-to-come w;
  rows = opening-rows h.keys w.few-keys client_rows (omega arith);
}

-- the bytes to come
abbrev rest : (e : Edition) {file : List ℕ} {h : Header} {left at : ℕ} {views : List ℕ} → Going file h left at views → List ℕ
rest e {h = h} s = records_bytes e h.keys s.g s.es

module _ (e : Edition) {file : List ℕ} {h : Header} {left at : ℕ} {views : List ℕ} (s : Going file h left at views) where
  rest-none : left ≡ 0 → rest e s ≡ []
  unfolding records_bytes
  rest-none none = ap (records_bytes e h.keys s.g) (none-to-come s.to-come none)

  pub first-in-form : 0 < left → InFormAt file at h.keys h.clients
  first-in-form some_left = in-form s.to-come some_left

  module _ (bytes : Bytes file) (few : h.clients ≤ max_clients) (some_left : 0 < left) (x : Record) (next : ℕ) (says : RecordSays file at h.keys h.clients (read_whole x next)) where
    this : Turn file h left at s.made s.g s.es x next
    this = turn s.to-come bytes few some_left x next says

    pub this-parts : PartsFit file h.keys x
    this-parts = readable-parts file h.keys s.made x this.readable

    abbrev after : Configuration
    after = step s.g (event s.g (entry_of file h.keys x))

    -- the bytes to come are its own and those of the others
    rest-first : rest e s ≡ bytes_of e file h.keys s.g x ++ records_bytes e h.keys after this.others
    unfolding records_bytes
    rest-first = ap (records_bytes e h.keys s.g) this.is-first

    length-first : length (rest e s) ≡ length (bytes_of e file h.keys s.g x) + length (records_bytes e h.keys after this.others)
    length-first = ap length rest-first ∙ length-append (bytes_of e file h.keys s.g x) (records_bytes e h.keys after this.others)

    abbrev goes_on : {views' : List ℕ} → ViewRows after h.keys views' → Going file h (left - 1) next views'
    goes_on rows = record { g = after; made = commits_with (entry_of file h.keys x) s.made; es = this.others; to-come = this.to-come; rows = rows }

-- ---- the length

pub record Reckoned (e : Edition) (file : List ℕ) (h : Header) (t : Trace) (left at sum : ℕ) (views : List ℕ) : Type 0 where
  pub going : Going file h left at views
  pub total : sum + length (rest e going) ≡ length (encode_in e t)

length_whole : (e : Edition) {file : List ℕ} {h : Header} (w : WholeFile file h) (t : Trace) → decode file ≡ taken t → min_bytes + length (rest e (goes-from w)) ≡ length (encode_in e t)
unfolding encode_in goes-from
length_whole e {h = h} w t d =
    sym (length-file_of h.keys h.clients (length (trace_in w).events) (records_bytes e h.keys (opening h.keys) (trace_in w).events))
    ∙ ap (λ (r : Trace). length (encode_in e r)) (only-trace w t d)

pub reckoned-first : (e : Edition) {file : List ℕ} {h : Header} (w : WholeFile file h) (t : Trace) → decode file ≡ taken t → Reckoned e file h t h.records min_bytes min_bytes (replicate client_rows 1)
reckoned-first e w t d = record { going = goes-from w; total = length_whole e w t d }

pub reckoned-on : (e : Edition) {file : List ℕ} {h : Header} {t : Trace} {left at sum : ℕ} {views : List ℕ} (s : Reckoned e file h t left at sum views)
    (bytes : Bytes file) (few : h.clients ≤ max_clients) (some_left : 0 < left) (x : Record) (next : ℕ) (says : RecordSays file at h.keys h.clients (read_whole x next))
    {after : List ℕ} {size : ℕ} → ((g : Configuration) → ViewRows g h.keys views → size ≡ length (bytes_of e file h.keys g x))
    → ((g : Configuration) → ViewRows g h.keys views → ViewRows (step g (event g (entry_of file h.keys x))) h.keys after)
    → Reckoned e file h t (left - 1) next (sum + size) after
reckoned-on e {h = h} s bytes few some_left x next says {size = size} reckoned on =
    let own = reckoned s.going.g s.going.rows in
    let rows = on s.going.g s.going.rows in
    let first = length-first e s.going bytes few some_left x next says in
    let all = s.total in
    record { going = goes_on e s.going bytes few some_left x next says rows; total = omega arith }

pub reckoned-all : (e : Edition) {file : List ℕ} {h : Header} {t : Trace} {left at sum : ℕ} {views : List ℕ} → left ≡ 0 → Reckoned e file h t left at sum views → sum ≡ length (encode_in e t)
reckoned-all e {sum = sum} none s =
    let nothing : length (rest e s.going) ≡ 0 = ap length (rest-none e s.going none) in
    let all = s.total in
    omega arith

-- ---- the bytes

pub record Written (e : Edition) (file start : List ℕ) (h : Header) (t : Trace) (left at to : ℕ) (buffer views : List ℕ) : Type 0 where
  pub going : Going file h left at views
  pub room : to + length (rest e going) ≤ length buffer
  pub all : put_at buffer to (rest e going) ≡ put_at start min_bytes (records_bytes e t.keys (opening t.keys) t.events)

pub written-first : (e : Edition) {file : List ℕ} {h : Header} (w : WholeFile file h) (t : Trace) → decode file ≡ taken t → (start : List ℕ) → length (encode_in e t) ≤ length start
    → Written e file start h t h.records min_bytes min_bytes start (replicate client_rows 1)
unfolding goes-from
written-first e w t d start room = record {
  going = goes-from w;
  room = subst (λ (m : ℕ). m ≤ length start) (sym (length_whole e w t d)) room;
  all = ap (λ (r : Trace). put_at start min_bytes (records_bytes e r.keys (opening r.keys) r.events)) (only-trace w t d);
}

module _ (e : Edition) {file start : List ℕ} {h : Header} {t : Trace} {left at to : ℕ} {buffer views : List ℕ} (s : Written e file start h t left at to buffer views)
    (bytes : Bytes file) (few : h.clients ≤ max_clients) (some_left : 0 < left) (x : Record) (next : ℕ) (says : RecordSays file at h.keys h.clients (read_whole x next)) where
  -- there is room for the record
  pub written-room : to + length (bytes_of e file h.keys s.going.g x) ≤ length buffer
  written-room =
      let first = length-first e s.going bytes few some_left x next says in
      let room = s.room in
      omega arith

  pub written_on : {after views' : List ℕ} {end : ℕ} → ((g : Configuration) → ViewRows g h.keys views → end ≡ to + length (bytes_of e file h.keys g x))
      → ((g : Configuration) → ViewRows g h.keys views → after ≡ put_at buffer to (bytes_of e file h.keys g x))
      → ((g : Configuration) → ViewRows g h.keys views → ViewRows (step g (event g (entry_of file h.keys x))) h.keys views')
      → length after ≡ length buffer → Written e file start h t (left - 1) next end after views'
  written_on {after} next-is put on same =
      let rows = on s.going.g s.going.rows in
      let ends = next-is s.going.g s.going.rows in
      let wrote = put s.going.g s.going.rows in
      let own = bytes_of e file h.keys s.going.g x in
      let going = goes_on e s.going bytes few some_left x next says rows in
      let first = length-first e s.going bytes few some_left x next says in
      let room = s.room in
      record {
        going = going;
        room = omega arith;
        all =
            ap (λ (k : ℕ). put_at after k (rest e going)) ends
            ∙ ap (λ (d : List ℕ). put_at d (to + length own) (rest e going)) wrote
            ∙ put_then buffer to own (rest e going) (length own) refl (omega arith)
            ∙ ap (put_at buffer to) (sym (rest-first e s.going bytes few some_left x next says))
            ∙ s.all;
      }

pub written_all : (e : Edition) {file start : List ℕ} {h : Header} {t : Trace} {left at to : ℕ} {buffer views : List ℕ} → left ≡ 0 → Written e file start h t left at to buffer views
    → buffer ≡ put_at start min_bytes (records_bytes e t.keys (opening t.keys) t.events)
written_all e {to = to} {buffer = buffer} none s = put-none buffer to ∙ ap (put_at buffer to) (sym (rest-none e s.going none)) ∙ s.all
