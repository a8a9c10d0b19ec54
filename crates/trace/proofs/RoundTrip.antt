-- A file of records reads back as the trace whose events they mean; so does the file of a well-formed trace that is written in full. One
-- lemma for each definition of the format; each reads what stands at a place of a file. Assumes nothing.
use Prim.Native.Nat.{ℕ, suc, ◌+◌, ◌*◌, ◌^◌, ◌≤◌, ◌<◌}
use mathlib.Core.Path.{◌≡◌, refl, sym, ap, ap₂, ◌∙◌, subst}
use mathlib.Core.List.{List, [], ◌∷◌, map}
use native.Mathlib.Omega.{arith}
use native.Mathlib.Nat.{zero-add}
use lib.Dec.{T, lit<}
use lib.ListN.{length, length-append}
use mathlib.Core.Logic.{◌≢◌}
use mir.Facts.{yes_and, yes_eqb, yes_leb, yes_ltb, no_eqb}
use Rattle.search.proofs.Choose.{choose_yes, choose_no, need-yes}
use Rattle.endian.specs.Endian.{le_at}
use Rattle.endian.proofs.Stands.{Stands, stands-whole, stands_at, stands-within, stands-first, stands-second, stands-behind, read-fitting, read_first}
use Rattle.store.specs.Limits.{max_keys, max_clients, max_commits, min_bytes, max_bytes}
use Rattle.store.specs.Store.{Client, View, Configuration, opening, Access, read, write, Operation, Commit, Event, shift, commit}
use Rattle.store.specs.Update.{step}
use Rattle.store.proofs.Run.{commits_in}
use Rattle.store.proofs.Masks.{view-back}
use Rattle.trace.specs.Result.{Result, taken, on_taken}
use Rattle.trace.specs.Entry.{Entry, shifting, committing, every, event, events_of}
use Rattle.trace.specs.Format.{Header, Trace, access_of, operation_at, operations_at, rank_at, operation_fits, operations_fit, whole, shift_length, shift_at, commit_length, commit_of, commit_at, record_at, commits_with, on_record, entries_from, header_at, within_limits, trace_of, decode}
use Rattle.trace.specs.Encode.{access_number, operation_bytes, operations_bytes, view_bytes, event_bytes, events_bytes, file_head, file_of, encode}
use Rattle.trace.proofs.Sizes.{length-operation_bytes, length-operations_bytes, event_length, length-event_bytes, length-file_head, length-file_of}
use Rattle.trace.proofs.Tests.{operation_fits-is, within_limits-is}
use Rattle.trace.specs.WellFormed.{rank, FitsOperation, Rise, FitsShift, FitsCommit, FitsEvent}
use Rattle.trace.proofs.WellFormed.{access_number-le-one, rising-length, FitsEvents, WellFormed}
use Rattle.trace.proofs.Entries.{in_full, events_of-in_full, length-events_of, commits_with-commits_in}

-- the header of a trace
abbrev pub header_of : Trace → Header
header_of t = record { keys = t.keys; clients = t.clients; records = length t.events }

-- the records that are read from a place on, one by one up to the end of the file
pub data ReadFrom (s : List ℕ) (h : Header) : ℕ → List Entry → Type 0 where
  at-end : {at : ℕ} → at ≡ length s → ReadFrom s h at []
  one_more : {at next : ℕ} {r : Entry} {rs : List Entry} → record_at s h at ≡ whole r next → ReadFrom s h next rs → ReadFrom s h at (r ∷ rs)

-- ---- views and operations

access_of-access_number : (a : Access) → access_of (access_number a) ≡ a
unfolding access_of
access_of-access_number read = refl
access_of-access_number write = refl

module _ (s : List ℕ) where
  -- the four numbers of an operation
  operation-numbers : (at : ℕ) (o : Operation) → o.key < 256 → o.value < 2 ^ 32 → Stands s at (operation_bytes o)
      → (le_at s at 1 ≡ access_number o.access) × (le_at s (at + 1) 1 ≡ o.key) × (le_at s (at + 2) 2 ≡ 0) × (le_at s (at + 4) 4 ≡ o.value)
  unfolding operation_bytes
  operation-numbers at o key value h =
      let kind = access_number-le-one o.access in
      let from_key = stands-behind 1 _ _ (at + 1) refl h in
      let from-zeros = stands-behind 1 _ _ (at + 2) (omega arith) from_key in
      let from-value = stands-behind 2 _ _ (at + 4) (omega arith) from-zeros in
      (read_first 1 _ _ (omega arith) h, read_first 1 _ _ key from_key, read_first 2 _ _ (lit< tt) from-zeros, read-fitting 4 _ value from-value)

  -- an operation, which passes its test
  operation-back : (at keys low : ℕ) (o : Operation) → keys ≤ max_keys → FitsOperation keys low o → Stands s at (operation_bytes o)
      → (operation_at s at ≡ o) × (rank_at s at ≡ rank o) × T (operation_fits s at keys low)
  operation-back at keys low o few fits h =
      let (access, key, zeros, value) = operation-numbers at o (omega arith) fits.value-fits h in
      let kind = access_number-le-one o.access in (
        λ i. record { access = (ap access_of access ∙ access_of-access_number o.access) i; key = key i; value = value i },
        omega arith,
        (operation_fits-is s at keys low).1 (omega arith, omega arith, zeros, omega arith),
      )

  -- all operations
  pub operations-back : (os : List Operation) (at keys low : ℕ) → keys ≤ max_keys → Rise keys low os → Stands s at (operations_bytes os)
      → (operations_at s at (length os) ≡ os) × T (operations_fit s at keys low (length os))
  unfolding operations_bytes operations_at operations_fit
  operations-back [] at keys low few rise h = (refl, tt)
  operations-back (o ∷ os) at keys low few rise h =
      let behind = stands_at (ap (λ k. at + k) (length-operation_bytes o)) (stands-second (operation_bytes o) (operations_bytes os) h) in
      let (same, same_rank, fits) = operation-back at keys low o few rise.0 (stands-first (operation_bytes o) (operations_bytes os) h) in
      let (others, others-fit) = operations-back os (at + 8) keys (suc (rank o)) few rise.1 behind in
      (ap₂ ◌∷◌ same others, yes_and (operation_fits s at keys low) (operations_fit s (at + 8) keys (suc (rank_at s at)) (length os)) fits (rw same_rank others-fit))

  -- ---- one record

  -- a record of kind 2
  shift_back : (h : Header) (at : ℕ) (d : Client) (u : View) → h.keys ≤ max_keys → h.clients ≤ max_clients → FitsShift h.keys h.clients d u
      → Stands s at (event_bytes h.keys (shift d u)) → record_at s h at ≡ whole (in_full (shift d u)) (at + shift_length h.keys)
  unfolding event_bytes record_at shift_at
  shift_back h at d u few-keys few-clients fits stands =
      let within = stands-within stands in
      let type_size = length-event_bytes h.keys (shift d u) in
      let from-kind = stands-behind 2 _ _ (at + 2) refl stands in
      let from-client = stands-behind 2 _ _ (at + 4) (omega arith) from-kind in
      let from-spare = stands-behind 1 _ _ (at + 5) (omega arith) from-client in
      let from_view = stands-behind 1 _ _ (at + 6) (omega arith) from-spare in
      let size = read_first 2 _ _ (omega arith) stands in
      let kind = read_first 2 _ _ (lit< tt) from-kind in
      let client = read_first 1 _ _ (omega arith) from-client in
      let spare = read_first 1 _ _ (lit< tt) from-spare in
      let view = view-back s (at + 6) h.keys u fits.view-fits from_view in
      let four : at + 4 ≤ length s = omega arith in
      let ends : at + shift_length h.keys ≤ length s = omega arith in
      let below : le_at s (at + 4) 1 < h.clients = omega arith in
      need-yes _ _ _ (yes_leb four)
      ∙ choose_yes _ _ _ (yes_eqb kind)
      ∙ need-yes _ _ _ (yes_eqb size)
      ∙ need-yes _ _ _ (yes_leb ends)
      ∙ need-yes _ _ _ (yes_ltb below)
      ∙ need-yes _ _ _ (yes_eqb spare)
      ∙ ap₂ (λ d v. whole (shifting d (every v)) (at + shift_length h.keys)) client view

  -- a record of kind 3
  commit-back : (h : Header) (at : ℕ) (c : Commit) → h.keys ≤ max_keys → h.clients ≤ max_clients → FitsCommit h.keys h.clients c
      → Stands s at (event_bytes h.keys (commit c)) → record_at s h at ≡ whole (in_full (commit c)) (at + commit_length h.keys (length c.operations))
  unfolding event_bytes record_at commit_at commit_of
  commit-back h at c few-keys few-clients fits stands =
      let m = length c.operations in
      let few = rising-length h.keys c.operations fits.rising in
      let within = stands-within stands in
      let type_size = length-event_bytes h.keys (commit c) in
      let from-kind = stands-behind 2 _ _ (at + 2) refl stands in
      let from-client = stands-behind 2 _ _ (at + 4) (omega arith) from-kind in
      let from-count = stands-behind 1 _ _ (at + 5) (omega arith) from-client in
      let from-session = stands-behind 1 _ _ (at + 6) (omega arith) from-count in
      let from-operations = stands-behind 4 _ _ (at + 10) (omega arith) from-session in
      let view-place : at + 10 + length (operations_bytes c.operations) ≡ at + (10 + 8 * m) = omega (arith, length-operations_bytes c.operations) in
      let from_view = stands_at view-place (stands-second (operations_bytes c.operations) (view_bytes h.keys c.view_after) from-operations) in
      let size = read_first 2 _ _ (omega arith) stands in
      let kind : le_at s (at + 2) 2 ≡ 3 = read_first 2 _ _ (lit< tt) from-kind in
      let client = read_first 1 _ _ (omega arith) from-client in
      let count : le_at s (at + 5) 1 ≡ m = read_first 1 _ _ (omega arith) from-count in
      let session = read_first 4 _ _ fits.session-fits from-session in
      let (operations, fit) = operations-back c.operations (at + 10) h.keys 0 few-keys fits.rising (stands-first _ _ from-operations) in
      let view = view-back s (at + (10 + 8 * m)) h.keys c.view_after fits.view-fits from_view in
      let four : at + 4 ≤ length s = omega arith in
      let five : at + 5 < length s = omega arith in
      let ends : at + commit_length h.keys m ≤ length s = omega arith in
      let below : le_at s (at + 4) 1 < h.clients = omega arith in
      let not-two : le_at s (at + 2) 2 ≢ 2 = omega arith in
      need-yes _ _ _ (yes_leb four)
      ∙ choose_no _ _ _ (no_eqb not-two)
      ∙ choose_yes _ _ _ (yes_eqb kind)
      ∙ need-yes _ _ _ (yes_ltb five)
      ∙ ap (λ j. commit_of s h at j) count
      ∙ need-yes _ _ _ (yes_eqb size)
      ∙ need-yes _ _ _ (yes_leb ends)
      ∙ need-yes _ _ _ (yes_ltb below)
      ∙ need-yes _ _ _ fit
      ∙ (λ i. whole (committing (client i) (session i) (operations i) (every (view i))) (at + commit_length h.keys m))

  -- a record of either kind, and where the next one starts
  event-back : (h : Header) (at : ℕ) (e : Event) → h.keys ≤ max_keys → h.clients ≤ max_clients → FitsEvent h.keys h.clients e
      → Stands s at (event_bytes h.keys e) → record_at s h at ≡ whole (in_full e) (at + event_length h.keys e)
  event-back h at (shift d u) few-keys few-clients fits stands = shift_back h at d u few-keys few-clients fits stands
  event-back h at (commit c) few-keys few-clients fits stands = commit-back h at c few-keys few-clients fits stands

  -- ---- all records

  -- the records up to the end of the file
  events-back : (h : Header) (es : List Event) (at : ℕ) → h.keys ≤ max_keys → h.clients ≤ max_clients → FitsEvents h.keys h.clients es
      → at + length (events_bytes h.keys es) ≡ length s → Stands s at (events_bytes h.keys es) → ReadFrom s h at (map in_full es)
  unfolding events_bytes
  events-back h [] at few-keys few-clients fits ends stands = let done : at ≡ length s = omega arith in at-end done
  events-back h (e ∷ es) at few-keys few-clients fits ends stands =
      let size = length-event_bytes h.keys e in
      let sizes = length-append (event_bytes h.keys e) (events_bytes h.keys es) in
      let behind = stands_at (ap (λ k. at + k) size) (stands-second (event_bytes h.keys e) (events_bytes h.keys es) stands) in
      one_more (event-back h at e few-keys few-clients fits.0 (stands-first (event_bytes h.keys e) (events_bytes h.keys es) stands))
      (events-back h es (at + event_length h.keys e) few-keys few-clients fits.1 (omega arith) behind)

  -- records that are read one by one are read all, where not too many of them are commits
  entries-back : (h : Header) (g : Configuration) (at n commits : ℕ) (rs : List Entry) → ReadFrom s h at rs → commits + commits_in (events_of g rs) ≤ max_commits
      → entries_from s h (length rs) at n commits ≡ taken rs
  unfolding entries_from on_record on_taken events_of
  entries-back h g at n commits [] (at-end done) few = need-yes _ _ _ (yes_eqb done)
  entries-back h g at n commits (r ∷ rs) (one_more {next = next} first others) few =
      let total = commits_with-commits_in g r (events_of (step g (event g r)) rs) commits in
      let count : commits_with r commits ≤ max_commits = omega arith in
      let rest = entries-back h (step g (event g r)) next (suc n) (commits_with r commits) rs others (omega arith) in
      let go_on : Entry → ℕ → ℕ → Result (List Entry) = λ r next c. on_taken (entries_from s h (length rs) next (suc n) c) (λ rest. taken (r ∷ rest)) in
      ap (λ x. on_record x n commits go_on) first
      ∙ need-yes _ _ _ (yes_leb count)
      ∙ ap (λ x. on_taken x (λ rest. taken (r ∷ rest))) rest

  -- ---- the file

  -- what the first twelve bytes say, and that the records stand behind them
  header-back : (t : Trace) (body : List ℕ) → WellFormed t → length (file_of t.keys t.clients (length t.events) body) ≤ max_bytes
      → Stands s 0 (file_of t.keys t.clients (length t.events) body)
      → (le_at s 0 4 ≡ min_bytes + length body) × (le_at s 4 2 ≡ 8) × (le_at s 6 2 ≡ 1) × (header_at s ≡ header_of t) × Stands s min_bytes body
  unfolding file_head
  header-back t body w short stands =
      let size = length-file_of t.keys t.clients (length t.events) body in
      let head = file_head (min_bytes + length body) t.keys t.clients (length t.events) in
      let from_start = stands-first head body stands in
      let from-header = stands-behind 4 _ _ 4 refl from_start in
      let from-kind = stands-behind 2 _ _ 6 refl from-header in
      let from-keys = stands-behind 2 _ _ 8 refl from-kind in
      let from-clients = stands-behind 1 _ _ 9 refl from-keys in
      let from-count = stands-behind 1 _ _ 10 refl from-clients in
      let few-keys = w.few-keys in
      let few-clients = w.few-clients in
      let keys = read_first 1 _ _ (omega arith) from-keys in
      let clients = read_first 1 _ _ (omega arith) from-clients in
      let records = read-fitting 2 _ w.few-records from-count in (
        read_first 4 _ _ (omega arith) from_start,
        read_first 2 _ _ (lit< tt) from-header,
        read_first 2 _ _ (lit< tt) from-kind,
        λ i. record { keys = keys i; clients = clients i; records = records i },
        stands_at (zero-add (length head) ∙ length-file_head (min_bytes + length body) t.keys t.clients (length t.events)) (stands-second head body stands),
      )

  -- the trace that a header and records make, where the records mean its events
  trace-back : (t : Trace) (rs : List Entry) → events_of (opening t.keys) rs ≡ t.events → header_at s ≡ header_of t
      → entries_from s (header_of t) (length t.events) min_bytes 1 0 ≡ taken rs
      → on_taken (entries_from s (header_at s) (header_at s).records min_bytes 1 0) (λ rs. taken (trace_of (header_at s) rs)) ≡ taken t
  unfolding on_taken
  trace-back t rs means header entries =
      (λ i. on_taken (entries_from s (header i) (header i).records min_bytes 1 0) (λ rs. taken (trace_of (header i) rs)))
      ∙ ap (λ x. on_taken x (λ rs. taken (trace_of (header_of t) rs))) entries
      ∙ ap (λ es. taken (record { keys = t.keys; clients = t.clients; events = es })) means

  -- a file that is nothing but the header of the trace and records that mean its events
  file-back : (t : Trace) (rs : List Entry) (body : List ℕ) → WellFormed t → length s ≤ max_bytes → length s ≡ length (file_of t.keys t.clients (length t.events) body)
      → Stands s 0 (file_of t.keys t.clients (length t.events) body) → events_of (opening t.keys) rs ≡ t.events
      → (Stands s min_bytes body → ReadFrom s (header_of t) min_bytes rs) → decode s ≡ taken t
  unfolding decode
  file-back t rs body w short same stands means reading =
      let size = length-file_of t.keys t.clients (length t.events) body in
      let (field, header-size, kind, header, from-records) = header-back t body w (omega arith) stands in
      let least : min_bytes ≤ length s = omega arith in
      let own : le_at s 0 4 ≡ length s = omega arith in
      let limits = (within_limits-is (header_of t)).1 (w.some_key, w.few-keys, w.some-client, w.few-clients) in
      let few : 0 + commits_in (events_of (opening t.keys) rs) ≤ max_commits = rw (zero-add (commits_in (events_of (opening t.keys) rs)), means) w.few-commits in
      let entries = entries-back (header_of t) (opening t.keys) min_bytes 1 0 rs (reading from-records) few in
      let counted = sym (length-events_of (opening t.keys) rs) ∙ ap length means in
      need-yes _ _ _ (yes_leb least)
      ∙ need-yes _ _ _ (yes_leb short)
      ∙ need-yes _ _ _ (yes_eqb own)
      ∙ need-yes _ _ _ (yes_eqb header-size)
      ∙ need-yes _ _ _ (yes_eqb kind)
      ∙ need-yes _ _ _ (subst (λ h. T (within_limits h)) (sym header) limits)
      ∙ trace-back t rs means header (ap (λ (n : ℕ). entries_from s (header_of t) n min_bytes 1 0) (sym counted) ∙ entries)

-- the file of a header and records, if it is not too long, reads back as the trace whose events the records mean
pub decode-file : (t : Trace) (rs : List Entry) (body : List ℕ) → WellFormed t → length (file_of t.keys t.clients (length t.events) body) ≤ max_bytes
    → events_of (opening t.keys) rs ≡ t.events
    → ((s : List ℕ) → min_bytes + length body ≡ length s → Stands s min_bytes body → ReadFrom s (header_of t) min_bytes rs)
    → decode (file_of t.keys t.clients (length t.events) body) ≡ taken t
decode-file t rs body w short means reading =
    let s = file_of t.keys t.clients (length t.events) body in
    file-back s t rs body w short refl (stands-whole s) means (reading s (sym (length-file_of t.keys t.clients (length t.events) body)))

-- and so does the file of a well-formed trace that is written in full
pub decode-encode : (t : Trace) → WellFormed t → length (encode t) ≤ max_bytes → decode (encode t) ≡ taken t
unfolding encode
decode-encode t w short =
    decode-file t (map in_full t.events) (events_bytes t.keys t.events) w short (events_of-in_full (opening t.keys) t.events)
    (λ s ends. events-back s (header_of t) t.events min_bytes w.few-keys w.few-clients w.fitting ends)
