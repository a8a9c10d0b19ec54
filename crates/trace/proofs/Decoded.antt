-- What is read from a file of bytes is well-formed. One lemma for each definition of the format, in its order; each says what holds of
-- what is read, if something is. Assumes nothing.
use Prim.Native.Nat.{ℕ, zero, suc, ◌+◌, ◌*◌, ◌^◌, ◌≤◌, ◌<◌, zero-le}
use mathlib.Core.Path.{◌≡◌, refl, ap, subst}
use mathlib.Core.Bool.{Bool, true, false}
use mathlib.Core.List.{List, [], ◌∷◌}
use native.Mathlib.Omega.{arith}
use lib.Dec.{T, ltb, lit<, ltb→lt, leb→le}
use lib.ListN.{length}
use mir.Facts.{and_yes, no_ltb}
use Rattle.search.specs.Choose.{when}
use Rattle.search.specs.Search.{how_many}
use Rattle.search.proofs.Choose.{choose_no, choose-ind, need-ind}
use Rattle.search.proofs.Tests.{true-T}
use Rattle.sets.specs.Set.{has}
use Rattle.sets.proofs.Laws.{has-lt}
use Rattle.endian.specs.Endian.{Bytes, le_at}
use Rattle.endian.proofs.Laws.{le_at-lt}
use Rattle.store.specs.Limits.{max_commits, min_bytes, max_bytes}
use Rattle.store.specs.Store.{Key, View, Configuration, opening}
use Rattle.store.specs.Update.{step}
use Rattle.store.specs.View.{FitsView}
use Rattle.store.proofs.Run.{commits_in}
use Rattle.trace.specs.Result.{Result, refused, taken, on_taken}
use Rattle.trace.specs.Entry.{Entry, listed_or, over, event, events_of}
use Rattle.trace.specs.Listed.{listed_at, touched}
use Rattle.trace.specs.Format.{Header, Trace, view_at, access_of, operation_at, operations_at, rank_at, operation_fits, operations_fit, Reading, misshapen, whole, shift_at, commit_of, commit_at, short_shift_of, short_shift_at, short_commit_of, short_commit_in, short_commit_at, record_at, commits_with, on_record, entries_from, header_at, within_limits, trace_of, decode}
use Rattle.trace.specs.Encode.{access_number}
use Rattle.trace.proofs.Tests.{operation_fits-is, within_limits-is}
use Rattle.trace.specs.WellFormed.{rank, FitsOperation, Rise, ViewsFit, FitsEntry}
use Rattle.trace.proofs.WellFormed.{FitsEvents, WellFormed}
use Rattle.trace.proofs.Entries.{length-events_of, commits_with-commits_in, opening-fits, step_fits}
use Rattle.trace.proofs.Listed.{touched-key}

-- ---- answers

-- if something is taken, it satisfies P
abbrev pub IfTaken : {A : Type 0} → (A → Type 0) → Result A → Type 0
IfTaken P (refused r) = Unit {0}
IfTaken P (taken a) = P a

-- what goes on with a value that satisfies Q
pub on_taken-ind : {A B : Type 0} (Q : A → Type 0) (P : B → Type 0) (x : Result A) (f : A → Result B)
    → IfTaken Q x → ((a : A) → Q a → IfTaken P (f a)) → IfTaken P (on_taken x f)
unfolding on_taken
on_taken-ind Q P (refused r) f q g = tt
on_taken-ind Q P (taken a) f q g = g a q

-- ---- what holds of what is read

-- of a record: it fits, and the next one starts within the file
abbrev pub ReadAt : List ℕ → Header → Reading → Type 0
ReadAt s h (misshapen code) = Unit {0}
ReadAt s h (whole r next) = FitsEntry h.keys h.clients r × (next ≤ length s)

-- of `left` records with `commits` before them: what they mean fits, wherever views do
pub record EntriesRead (h : Header) (left commits : ℕ) (rs : List Entry) : Type 0 where
  pub fitting : (g : Configuration) → ViewsFit h.keys g → FitsEvents h.keys h.clients (events_of g rs)
  pub counted : length rs ≡ left
  pub few-commits : (g : Configuration) → commits + commits_in (events_of g rs) ≤ max_commits

-- of none
none_read : (h : Header) (commits : ℕ) → commits ≤ max_commits → EntriesRead h 0 commits []
unfolding commits_in events_of
none_read h commits few = record { fitting = λ g v. tt; counted = refl; few-commits = λ g. omega arith }

-- of a record and those after it
one-more-read : (h : Header) (left commits : ℕ) (r : Entry) (rs : List Entry) → FitsEntry h.keys h.clients r
    → EntriesRead h left (commits_with r commits) rs → EntriesRead h (suc left) commits (r ∷ rs)
unfolding events_of
one-more-read h left commits r rs fits rest = record {
  fitting = λ g v. (fits g v, rest.fitting (step g (event g r)) (step_fits h.keys h.clients g (event g r) v (fits g v)));
  counted = ap suc rest.counted;
  few-commits = λ g.
      let total = commits_with-commits_in g r (events_of (step g (event g r)) rs) commits in
      let others = rest.few-commits (step g (event g r)) in
      omega arith;
}

-- of a trace: it is well-formed, and the file is neither too short nor too long
abbrev pub TraceRead : List ℕ → Trace → Type 0
TraceRead s t = WellFormed t × (min_bytes ≤ length s) × (length s ≤ max_bytes)

trace-read : (h : Header) (rs : List Entry) → T (within_limits h) → h.records < 65536 → EntriesRead h h.records 0 rs → WellFormed (trace_of h rs)
trace-read h rs limits counted rest =
    let (some_key, few-keys, some-client, few-clients) = (within_limits-is h).0 limits in
    let as_many = length-events_of (opening h.keys) rs in
    record {
      some_key = some_key;
      few-keys = few-keys;
      some-client = some-client;
      few-clients = few-clients;
      few-records = omega (arith, rest.counted);
      few-commits = omega (arith, rest.few-commits (opening h.keys));
      fitting = rest.fitting (opening h.keys) (opening-fits h.keys);
    }

-- ---- views and operations

-- the number of an access that was read is the number that was read
pub access_number-access_of : (n : ℕ) → n ≤ 1 → access_number (access_of n) ≡ n
unfolding access_of
access_number-access_of zero h = refl
access_number-access_of (suc zero) h = refl
access_number-access_of (suc (suc n)) h = absurd (omega arith)

-- as many operations as asked for
pub length-operations_at : (s : List ℕ) (at m : ℕ) → length (operations_at s at m) ≡ m
unfolding operations_at
length-operations_at s at zero = refl
length-operations_at s at (suc m) = ap suc (length-operations_at s (at + 8) m)

module _ (s : List ℕ) (bytes : Bytes s) where
  -- a view has masks of 64 bits, and none beyond its keys
  view-read : (at keys : ℕ) → FitsView keys (view_at s at keys)
  unfolding view_at
  view-read at keys = record {
    word = λ k. choose-ind (λ m. m < 2 ^ 64) (ltb k keys) (le_at s (at + 8 * k) 8) 0 (λ t. le_at-lt s bytes 8 (at + 8 * k)) (λ t. lit< tt);
    beyond = λ k beyond. choose_no (ltb k keys) (le_at s (at + 8 * k) 8) 0 (no_ltb beyond);
  }

  -- an operation that passes its test fits, and its rank is the one tested
  operation-read : (at keys low : ℕ) → T (operation_fits s at keys low)
      → FitsOperation keys low (operation_at s at) × (rank (operation_at s at) ≡ rank_at s at)
  operation-read at keys low t =
      let (access, key, zeros, rises) = (operation_fits-is s at keys low).0 t in
      let number = access_number-access_of (le_at s at 1) access in
      (record { of-the-store = key; value-fits = le_at-lt s bytes 4 (at + 4); no_lower = omega arith }, omega arith)

  -- operations that pass rise
  pub operations-read : (m at keys low : ℕ) → T (operations_fit s at keys low m) → Rise keys low (operations_at s at m)
  unfolding operations_fit operations_at
  operations-read zero at keys low t = tt
  operations-read (suc m) at keys low t =
      let (first, others) = and_yes (operation_fits s at keys low) (operations_fit s (at + 8) keys (suc (rank_at s at)) m) t in
      let (fits, same_rank) = operation-read at keys low first in
      (fits, rw same_rank (operations-read m (at + 8) keys (suc (rank_at s at)) others))

  -- ---- one record

  shift-read : (h : Header) (at : ℕ) → ReadAt s h (shift_at s h at)
  unfolding shift_at event over listed_or
  shift-read h at =
      need-ind (ReadAt s h) _ _ _ tt (λ size.
      need-ind (ReadAt s h) _ _ _ tt (λ within.
      need-ind (ReadAt s h) _ _ _ tt (λ client.
      need-ind (ReadAt s h) _ _ _ tt (λ spare.
      (λ g v. record { client-below = ltb→lt _ _ client; view-fits = view-read (at + 6) h.keys }, leb→le _ _ within)))))

  commit-of-read : (h : Header) (at m : ℕ) → ReadAt s h (commit_of s h at m)
  unfolding commit_of event over listed_or
  commit-of-read h at m =
      need-ind (ReadAt s h) _ _ _ tt (λ size.
      need-ind (ReadAt s h) _ _ _ tt (λ within.
      need-ind (ReadAt s h) _ _ _ tt (λ client.
      need-ind (ReadAt s h) _ _ _ tt (λ fit. (
        λ g v. record {
          client-below = ltb→lt _ _ client;
          session-fits = le_at-lt s bytes 4 (at + 6);
          rising = operations-read m (at + 10) h.keys 0 fit;
          view-fits = view-read (at + (10 + 8 * m)) h.keys;
        },
        leb→le _ _ within,
      )))))

  commit-read : (h : Header) (at : ℕ) → ReadAt s h (commit_at s h at)
  unfolding commit_at
  commit-read h at = need-ind (ReadAt s h) _ _ _ tt (λ within. commit-of-read h at (le_at s (at + 5) 1))

  -- ---- the short edition

  -- masks that are listed for keys of the store, put over a view that fits
  listed-read : (at keys : ℕ) (f : Key → Bool) (u : View) → ((k : Key) → T (f k) → k < keys) → FitsView keys u → FitsView keys (over u (listed_at s at f))
  unfolding over listed_or listed_at when
  listed-read at keys f u few fits = record {
    word = λ k. go-word k (f k);
    beyond = λ k beyond. go-beyond k beyond (f k) refl;
  }
    where
      go-word : (k : Key) (b : Bool) → listed_or (when b (le_at s (at + 8 * how_many k f) 8)) (u k) < 2 ^ 64
      go-word k true = le_at-lt s bytes 8 (at + 8 * how_many k f)
      go-word k false = fits.word k

      go-beyond : (k : Key) → keys ≤ k → (b : Bool) → f k ≡ b → listed_or (when b (le_at s (at + 8 * how_many k f) 8)) (u k) ≡ 0
      go-beyond k beyond true e = absurd (omega (arith, few k (true-T (f k) e)))
      go-beyond k beyond false e = fits.beyond k beyond

  short-shift-of-read : (h : Header) (at set : ℕ) → ReadAt s h (short_shift_of s h at set)
  unfolding short_shift_of event
  short-shift-of-read h at set =
      need-ind (ReadAt s h) _ _ _ tt (λ size.
      need-ind (ReadAt s h) _ _ _ tt (λ within.
      need-ind (ReadAt s h) _ _ _ tt (λ client.
      need-ind (ReadAt s h) _ _ _ tt (λ spare.
      need-ind (ReadAt s h) _ _ _ tt (λ few. (
        λ g v. record {
          client-below = ltb→lt _ _ client;
          view-fits = listed-read (at + 10) h.keys (has set) (g.views (le_at s (at + 4) 1)) (λ k. has-lt h.keys set k (ltb→lt _ _ few)) (v (le_at s (at + 4) 1));
        },
        leb→le _ _ within,
      ))))))

  short-shift-read : (h : Header) (at : ℕ) → ReadAt s h (short_shift_at s h at)
  unfolding short_shift_at
  short-shift-read h at = need-ind (ReadAt s h) _ _ _ tt (λ within. short-shift-of-read h at (le_at s (at + 6) 4))

  short-commit-of-read : (h : Header) (at m : ℕ) → ReadAt s h (short_commit_of s h at m (operations_at s (at + 10) m))
  unfolding short_commit_of event
  short-commit-of-read h at m =
      need-ind (ReadAt s h) _ _ _ tt (λ size.
      need-ind (ReadAt s h) _ _ _ tt (λ within.
      need-ind (ReadAt s h) _ _ _ tt (λ client.
      need-ind (ReadAt s h) _ _ _ tt (λ fit.
      let rise = operations-read m (at + 10) h.keys 0 fit in
      let os = operations_at s (at + 10) m in (
        λ g v. record {
          client-below = ltb→lt _ _ client;
          session-fits = le_at-lt s bytes 4 (at + 6);
          rising = rise;
          view-fits =
              listed-read (at + (10 + 8 * m)) h.keys (touched os) (g.views (le_at s (at + 4) 1)) (λ k t. (touched-key h.keys 0 os k rise t).0) (v (le_at s (at + 4) 1));
        },
        leb→le _ _ within,
      )))))

  short-commit-read : (h : Header) (at : ℕ) → ReadAt s h (short_commit_at s h at)
  unfolding short_commit_at short_commit_in
  short-commit-read h at =
      need-ind (ReadAt s h) _ _ _ tt (λ five.
      need-ind (ReadAt s h) _ _ _ tt (λ within. short-commit-of-read h at (le_at s (at + 5) 1)))

  -- what holds of the record at `at`
  pub record-read : (h : Header) (at : ℕ) → ReadAt s h (record_at s h at)
  unfolding record_at
  record-read h at =
      need-ind (ReadAt s h) _ _ _ tt (λ four.
      choose-ind (ReadAt s h) _ _ _ (λ t. shift-read h at) (λ t.
      choose-ind (ReadAt s h) _ _ _ (λ t. commit-read h at) (λ t.
      choose-ind (ReadAt s h) _ _ _ (λ t. short-commit-read h at) (λ t.
      choose-ind (ReadAt s h) _ _ _ (λ t. short-shift-read h at) (λ t. tt)))))

  -- ---- all records

  -- going on after a record
  on-record-read : {A : Type 0} (P : A → Type 0) (h : Header) (n commits : ℕ) (f : Entry → ℕ → ℕ → Result A) (x : Reading) → ReadAt s h x
      → ((r : Entry) (next : ℕ) → FitsEntry h.keys h.clients r → commits_with r commits ≤ max_commits → IfTaken P (f r next (commits_with r commits)))
      → IfTaken P (on_record x n commits f)
  unfolding on_record
  on-record-read P h n commits f (misshapen code) read rest = tt
  on-record-read P h n commits f (whole r next) read rest = need-ind (IfTaken P) _ _ _ tt (λ few. rest r next read.0 (leb→le _ _ few))

  -- what holds of the records from `at` on
  pub entries-read : (h : Header) (left at n commits : ℕ) → commits ≤ max_commits → IfTaken (EntriesRead h left commits) (entries_from s h left at n commits)
  unfolding entries_from
  entries-read h zero at n commits few = need-ind (IfTaken (EntriesRead h zero commits)) _ _ _ tt (λ done. none_read h commits few)
  entries-read h (suc left) at n commits few =
      on-record-read (EntriesRead h (suc left) commits) h n commits _ (record_at s h at) (record-read h at) (λ r next fits count.
      on_taken-ind (EntriesRead h left (commits_with r commits)) (EntriesRead h (suc left) commits) _ _
      (entries-read h left next (suc n) (commits_with r commits) count) (λ rs rest. one-more-read h left commits r rs fits rest))

  -- ---- the file

  -- what holds of the trace of the file
  file-read : IfTaken (TraceRead s) (decode s)
  unfolding decode
  file-read =
      need-ind (IfTaken (TraceRead s)) _ _ _ tt (λ least.
      need-ind (IfTaken (TraceRead s)) _ _ _ tt (λ most.
      need-ind (IfTaken (TraceRead s)) _ _ _ tt (λ field.
      need-ind (IfTaken (TraceRead s)) _ _ _ tt (λ size.
      need-ind (IfTaken (TraceRead s)) _ _ _ tt (λ kind.
      need-ind (IfTaken (TraceRead s)) _ _ _ tt (λ limits.
      on_taken-ind (EntriesRead (header_at s) (header_at s).records 0) (TraceRead s) _ _
      (entries-read (header_at s) (header_at s).records min_bytes 1 0 zero-le)
      (λ rs rest. (trace-read (header_at s) rs limits (le_at-lt s bytes 2 10) rest, leb→le _ _ least, leb→le _ _ most))))))))

  -- a trace that was read is well-formed
  pub decoded-well-formed : (t : Trace) → decode s ≡ taken t → WellFormed t
  decoded-well-formed t e = (subst (IfTaken (TraceRead s)) e file-read).0

  -- and its file neither too short nor too long
  pub decoded-length : (t : Trace) → decode s ≡ taken t → (min_bytes ≤ length s) × (length s ≤ max_bytes)
  decoded-length t e = let read = subst (IfTaken (TraceRead s)) e file-read in (read.1, read.2)
