-- A trace that is taken, written in either edition, reads back as that trace. Assumes nothing.
use Prim.Native.Nat.{ℕ, ◌+◌, ◌*◌, ◌^◌, ◌≤◌, ◌<◌}
use mathlib.Core.Path.{◌≡◌, refl, sym, ap, ap₂, ◌∙◌, subst, fun_ext}
use mathlib.Core.Bool.{Bool, true, false, not}
use mathlib.Core.Logic.{◌≢◌, ◌↔◌}
use mathlib.Core.Option.{some}
use mathlib.Core.List.{List, [], ◌∷◌, ◌++◌}
use native.Mathlib.Omega.{arith}
use native.Mathlib.Decide.{ℕ_discrete, dec_lt}
use lib.Dec.{T, eqb, lit<}
use lib.ListN.{length, length-append}
use lib.Pow.{pow_mono}
use mir.Facts.{yes_eqb, yes_leb, yes_ltb, no_eqb}
use Rattle.search.specs.Choose.{when}
use Rattle.search.specs.Search.{how_many}
use Rattle.search.proofs.Choose.{choose_yes, choose_no, need-yes}
use Rattle.search.proofs.Tests.{true-T, false-T, not_is, eq_is}
use Rattle.search.proofs.Counting.{how_many-le}
use Rattle.sets.specs.Set.{Set, has}
use Rattle.sets.proofs.Laws.{has-lt}
use Rattle.sets.proofs.Counting.{has-set_of, set_of-has, set_of-small, size-how_many}
use Rattle.endian.specs.Endian.{le_at}
use Rattle.endian.proofs.Laws.{length-le_bytes-append}
use Rattle.endian.proofs.Stands.{Stands, stands_at, stands-within, stands-first, stands-second, stands-behind, read_first}
use Rattle.store.specs.Limits.{max_keys, max_clients, min_bytes, max_bytes}
use Rattle.store.specs.Store.{Key, Client, View, Configuration, opening, opening_store, read, write, Commit, Event, shift, commit}
use Rattle.store.specs.Update.{update, step, view_before}
use Rattle.store.specs.View.{FitsView}
use Rattle.store.specs.Sound.{Sound}
use Rattle.store.specs.Legal.{LegalCommit}
use Rattle.store.proofs.Sound.{sound-opening}
use Rattle.store.proofs.Run.{LegalRun, done, shifts, commits, sound-shifts, sound-commits}
use Rattle.trace.specs.Result.{taken}
use Rattle.trace.specs.Entry.{Listed, Entry, shifting, committing, listed_or, over, event, events_of}
use Rattle.trace.specs.Listed.{listed_at, listed_bytes, touched}
use Rattle.trace.specs.Format.{Header, Trace, whole, short_shift_length, short_shift_of, short_shift_at, short_commit_length, short_commit_of, short_commit_in, short_commit_at, record_at, decode}
use Rattle.trace.specs.Encode.{operations_bytes, event_bytes, events_bytes, file_of, encode}
use Rattle.trace.specs.Edition.{Edition, long, short, changed, short_shift_bytes, short_commit_bytes, record_bytes, records_bytes, encode_in}
use Rattle.trace.specs.WellFormed.{Rise, FitsShift, FitsCommit}
use Rattle.trace.proofs.Sizes.{length-operations_bytes}
use Rattle.trace.proofs.WellFormed.{rising-length, FitsEvents, WellFormed}
use Rattle.trace.proofs.Listed.{touched-key, untouched, keys_in-how_many, length-listed_bytes, listed_back}
use Rattle.trace.proofs.RoundTrip.{header_of, ReadFrom, at-end, one_more, operations-back, decode-file, decode-encode}

-- ---- what a record says that is written short

-- the masks of a view, of the keys that pass
abbrev pub only_of : (Key → Bool) → View → Listed
only_of f u k = when (f k) (u k)

abbrev pub in_short : ℕ → Configuration → Event → Entry
in_short keys g (shift d u) = shifting d (only_of (has (changed keys (g.views d) u)) u)
in_short keys g (commit c) = committing c.client c.session c.operations (only_of (touched c.operations) c.view_after)

unfoldable pub all_in_short : ℕ → Configuration → List Event → List Entry
all_in_short keys g [] = []
all_in_short keys g (e ∷ es) = in_short keys g e ∷ all_in_short keys (step g e) es

-- what is listed of a view, over one that agrees with it where nothing is listed, is that view
over-some : (old u : View) (f : Key → Bool) → ((k : Key) → ¬ T (f k) → u k ≡ old k) → over old (only_of f u) ≡ u
unfolding over listed_or when
over-some old u f same = fun_ext (λ k. go k (f k) refl)
  where
    go : (k : Key) (b : Bool) → f k ≡ b → listed_or (when b (u k)) (old k) ≡ u k
    go k true e = refl
    go k false e = sym (same k (false-T (f k) e))

-- a shift lists exactly the keys that change
pub changed-is : (keys : ℕ) (before u : View) (k : Key) → T (has (changed keys before u) k) ↔ ((k < keys) × (u k ≢ before k))
unfolding changed
changed-is keys before u k = (
  λ t. let (below, differs) = has-set_of keys (λ j. not (eqb (u j) (before j))) k t in (below, (not_is (eqb (u k) (before k)) (eq_is (u k) (before k))).0 differs),
  λ h. set_of-has keys (λ j. not (eqb (u j) (before j))) k h.0 ((not_is (eqb (u k) (before k)) (eq_is (u k) (before k))).1 h.1),
)

pub changed-small : (keys : ℕ) (before u : View) → changed keys before u < 2 ^ keys
unfolding changed
changed-small keys before u = set_of-small keys (λ k. not (eqb (u k) (before k)))

-- a shift that lists what it changes
shift-means : (keys : ℕ) (g : Configuration) (d : Client) (u : View) → FitsView keys u → FitsView keys (g.views d) → event g (in_short keys g (shift d u)) ≡ shift d u
unfolding event
shift-means keys g d u fits old-fits = ap (shift d) (over-some (g.views d) u (has (changed keys (g.views d) u)) same)
  where
    same : (k : Key) → ¬ T (has (changed keys (g.views d) u) k) → u k ≡ g.views d k
    same k out = go (dec_lt k keys) (ℕ_discrete (u k) (g.views d k))
      where
        go : Dec (k < keys) → Dec (u k ≡ g.views d k) → u k ≡ g.views d k
        go (yes below) (yes e) = e
        go (yes below) (no differs) = absurd (out ((changed-is keys (g.views d) u k).1 (below, differs)))
        go (no beyond) e = fits.beyond k (omega arith) ∙ sym (old-fits.beyond k (omega arith))

-- a commit whose view changes only at keys with an operation
commit-means : (keys : ℕ) (g : Configuration) (c : Commit) → LegalCommit g c → event g (in_short keys g (commit c)) ≡ commit c
unfolding event
commit-means keys g c l =
    ap (λ (v : View). commit (record { client = c.client; session = c.session; operations = c.operations; view_after = v }))
    (over-some (view_before g c) c.view_after (touched c.operations) (λ k out. l.still k (untouched read c.operations k out) (untouched write c.operations k out)))

-- so the records of a legal run mean its events
pub short-means : (keys : ℕ) {g : Configuration} {es : List Event} → Sound g → g.store.keys ≡ keys → LegalRun g es → events_of g (all_in_short keys g es) ≡ es
unfolding events_of all_in_short step update
short-means keys h same done = refl
short-means keys {g} h same (shifts {d = d} {u = u} {es = es} f l r) =
    let old = h.views d in
    let means = shift-means keys g d u (subst (λ (n : ℕ). FitsView n u) same f) (subst (λ (n : ℕ). FitsView n (g.views d)) same (record { word = old.word; beyond = old.beyond })) in
    (λ i. means i ∷ events_of (step g (means i)) (all_in_short keys (step g (shift d u)) es))
    ∙ ap (λ (xs : List Event). shift d u ∷ xs) (short-means keys (sound-shifts h l) same r)
short-means keys {g} h same (commits {c = c} {es = es} f l r) =
    let means = commit-means keys g c l in
    (λ i. means i ∷ events_of (step g (means i)) (all_in_short keys (step g (commit c)) es))
    ∙ ap (λ (xs : List Event). commit c ∷ xs) (short-means keys (sound-commits h f l) same r)

-- ---- how long they are

pub length-short_shift : (keys : ℕ) (d : Client) (listed : Set) (u : View) → listed < 2 ^ keys → length (short_shift_bytes keys d listed u) ≡ short_shift_length listed
unfolding short_shift_bytes
length-short_shift keys d listed u small =
    let same = size-how_many keys listed small in
    simp (length-le_bytes-append, length-listed_bytes) (omega arith)

pub length-short_commit : (keys : ℕ) (c : Commit) → Rise keys 0 c.operations → length (short_commit_bytes keys c) ≡ short_commit_length (length c.operations) c.operations
unfolding short_commit_bytes
length-short_commit keys c rise =
    let same = keys_in-how_many keys c.operations rise in
    simp (length-le_bytes-append, length-append, length-operations_bytes, length-listed_bytes) (omega arith)

-- ---- read back

module _ (s : List ℕ) where
  listing-back : (at keys : ℕ) (f : Key → Bool) (u : View) → ((k : Key) → T (f k) → k < keys) → FitsView keys u → Stands s at (listed_bytes keys f u)
      → listed_at s at f ≡ only_of f u
  unfolding listed_at when
  listing-back at keys f u few fits h = fun_ext (λ k. go k (f k) refl)
    where
      go : (k : Key) (b : Bool) → f k ≡ b → when b (le_at s (at + 8 * how_many k f) 8) ≡ when b (u k)
      go k true e = ap some (listed_back s at keys f u k (few k (true-T (f k) e)) (true-T (f k) e) (fits.word k) h)
      go k false e = refl

  -- a record of kind 6
  short-shift-back : (h : Header) (at : ℕ) (d : Client) (set : Set) (u : View) → h.keys ≤ max_keys → h.clients ≤ max_clients → set < 2 ^ h.keys
      → FitsShift h.keys h.clients d u → Stands s at (short_shift_bytes h.keys d set u)
      → record_at s h at ≡ whole (shifting d (only_of (has set) u)) (at + short_shift_length set)
  unfolding short_shift_bytes record_at short_shift_at short_shift_of
  short-shift-back h at d set u few-keys few-clients small fits stands =
      let within = stands-within stands in
      let type_size = length-short_shift h.keys d set u small in
      let many = subst (λ (n : ℕ). n ≤ h.keys) (sym (size-how_many h.keys set small)) (how_many-le h.keys (has set)) in
      let word : set < 2 ^ 32 = omega (arith, small, pow_mono {i = h.keys} {j = 32} (omega arith)) in
      let from-kind = stands-behind 2 _ _ (at + 2) refl stands in
      let from-client = stands-behind 2 _ _ (at + 4) (omega arith) from-kind in
      let from-spare = stands-behind 1 _ _ (at + 5) (omega arith) from-client in
      let from-set = stands-behind 1 _ _ (at + 6) (omega arith) from-spare in
      let from-masks = stands-behind 4 _ _ (at + 10) (omega arith) from-set in
      let size = read_first 2 _ _ (omega arith) stands in
      let kind : le_at s (at + 2) 2 ≡ 6 = read_first 2 _ _ (lit< tt) from-kind in
      let client = read_first 1 _ _ (omega (arith, fits.client-below)) from-client in
      let spare = read_first 1 _ _ (lit< tt) from-spare in
      let listed : le_at s (at + 6) 4 ≡ set = read_first 4 _ _ word from-set in
      let masks = listing-back (at + 10) h.keys (has set) u (λ k. has-lt h.keys set k small) fits.view-fits from-masks in
      let four : at + 4 ≤ length s = omega arith in
      let ten : at + 10 ≤ length s = omega arith in
      let ends : at + short_shift_length set ≤ length s = omega arith in
      let below : le_at s (at + 4) 1 < h.clients = omega (arith, fits.client-below) in
      let not-two : le_at s (at + 2) 2 ≢ 2 = omega arith in
      let not_three : le_at s (at + 2) 2 ≢ 3 = omega arith in
      let not_five : le_at s (at + 2) 2 ≢ 5 = omega arith in
      need-yes _ _ _ (yes_leb four)
      ∙ choose_no _ _ _ (no_eqb not-two)
      ∙ choose_no _ _ _ (no_eqb not_three)
      ∙ choose_no _ _ _ (no_eqb not_five)
      ∙ choose_yes _ _ _ (yes_eqb kind)
      ∙ need-yes _ _ _ (yes_leb ten)
      ∙ ap (λ j. short_shift_of s h at j) listed
      ∙ need-yes _ _ _ (yes_eqb size)
      ∙ need-yes _ _ _ (yes_leb ends)
      ∙ need-yes _ _ _ (yes_ltb below)
      ∙ need-yes _ _ _ (yes_eqb spare)
      ∙ need-yes _ _ _ (yes_ltb small)
      ∙ ap₂ (λ e l. whole (shifting e l) (at + short_shift_length set)) client masks

  -- a record of kind 5
  short-commit-back : (h : Header) (at : ℕ) (c : Commit) → h.keys ≤ max_keys → h.clients ≤ max_clients → FitsCommit h.keys h.clients c
      → Stands s at (short_commit_bytes h.keys c)
      → record_at s h at ≡ whole (committing c.client c.session c.operations (only_of (touched c.operations) c.view_after)) (at + short_commit_length (length c.operations) c.operations)
  unfolding short_commit_bytes record_at short_commit_at short_commit_in short_commit_of
  short-commit-back h at c few-keys few-clients fits stands =
      let os = c.operations in
      let m = length os in
      let few = rising-length h.keys os fits.rising in
      let keys_in = keys_in-how_many h.keys os fits.rising in
      let many = how_many-le h.keys (touched os) in
      let within = stands-within stands in
      let type_size = length-short_commit h.keys c fits.rising in
      let from-kind = stands-behind 2 _ _ (at + 2) refl stands in
      let from-client = stands-behind 2 _ _ (at + 4) (omega arith) from-kind in
      let from-count = stands-behind 1 _ _ (at + 5) (omega arith) from-client in
      let from-session = stands-behind 1 _ _ (at + 6) (omega arith) from-count in
      let from-operations = stands-behind 4 _ _ (at + 10) (omega arith) from-session in
      let view-place : at + 10 + length (operations_bytes os) ≡ at + (10 + 8 * m) = omega (arith, length-operations_bytes os) in
      let from-masks = stands_at view-place (stands-second (operations_bytes os) (listed_bytes h.keys (touched os) c.view_after) from-operations) in
      let size = read_first 2 _ _ (omega arith) stands in
      let kind : le_at s (at + 2) 2 ≡ 5 = read_first 2 _ _ (lit< tt) from-kind in
      let client = read_first 1 _ _ (omega (arith, fits.client-below)) from-client in
      let count : le_at s (at + 5) 1 ≡ m = read_first 1 _ _ (omega arith) from-count in
      let session = read_first 4 _ _ fits.session-fits from-session in
      let (operations, fit) = operations-back s os (at + 10) h.keys 0 few-keys fits.rising (stands-first _ _ from-operations) in
      let masks = listing-back (at + (10 + 8 * m)) h.keys (touched os) c.view_after (λ k t. (touched-key h.keys 0 os k fits.rising t).0) fits.view-fits from-masks in
      let four : at + 4 ≤ length s = omega arith in
      let five : at + 5 < length s = omega arith in
      let ops-end : at + (10 + 8 * m) ≤ length s = omega arith in
      let ends : at + short_commit_length m os ≤ length s = omega arith in
      let below : le_at s (at + 4) 1 < h.clients = omega (arith, fits.client-below) in
      let not-two : le_at s (at + 2) 2 ≢ 2 = omega arith in
      let not_three : le_at s (at + 2) 2 ≢ 3 = omega arith in
      need-yes _ _ _ (yes_leb four)
      ∙ choose_no _ _ _ (no_eqb not-two)
      ∙ choose_no _ _ _ (no_eqb not_three)
      ∙ choose_yes _ _ _ (yes_eqb kind)
      ∙ need-yes _ _ _ (yes_ltb five)
      ∙ ap (λ j. short_commit_in s h at j) count
      ∙ need-yes _ _ _ (yes_leb ops-end)
      ∙ ap (λ x. short_commit_of s h at m x) operations
      ∙ need-yes _ _ _ (yes_eqb size)
      ∙ need-yes _ _ _ (yes_leb ends)
      ∙ need-yes _ _ _ (yes_ltb below)
      ∙ need-yes _ _ _ fit
      ∙ (λ i. whole (committing (client i) (session i) os (masks i)) (at + short_commit_length m os))

  -- the records up to the end of the file
  short_back : (h : Header) (g : Configuration) (es : List Event) (at : ℕ) → h.keys ≤ max_keys → h.clients ≤ max_clients → FitsEvents h.keys h.clients es
      → at + length (records_bytes short h.keys g es) ≡ length s → Stands s at (records_bytes short h.keys g es) → ReadFrom s h at (all_in_short h.keys g es)
  unfolding records_bytes all_in_short record_bytes
  short_back h g [] at few-keys few-clients fits ends stands = let end : at ≡ length s = omega arith in at-end end
  short_back h g (shift d u ∷ es) at few-keys few-clients fits ends stands =
      let set = changed h.keys (g.views d) u in
      let bytes = short_shift_bytes h.keys d set u in
      let others = records_bytes short h.keys (step g (shift d u)) es in
      let small = changed-small h.keys (g.views d) u in
      let size = length-short_shift h.keys d set u small in
      let sizes = length-append bytes others in
      let behind = stands_at (ap (λ k. at + k) size) (stands-second bytes others stands) in
      one_more (short-shift-back h at d set u few-keys few-clients small fits.0 (stands-first bytes others stands))
      (short_back h (step g (shift d u)) es (at + short_shift_length set) few-keys few-clients fits.1 (omega arith) behind)
  short_back h g (commit c ∷ es) at few-keys few-clients fits ends stands =
      let bytes = short_commit_bytes h.keys c in
      let others = records_bytes short h.keys (step g (commit c)) es in
      let size = length-short_commit h.keys c fits.0.rising in
      let sizes = length-append bytes others in
      let behind = stands_at (ap (λ k. at + k) size) (stands-second bytes others stands) in
      one_more (short-commit-back h at c few-keys few-clients fits.0 (stands-first bytes others stands))
      (short_back h (step g (commit c)) es (at + short_commit_length (length c.operations) c.operations) few-keys few-clients fits.1 (omega arith) behind)

-- a trace whose run is legal, written short, reads back as it, if its file is not too long
short-file : (t : Trace) → WellFormed t → LegalRun (opening t.keys) t.events → length (encode_in short t) ≤ max_bytes → decode (encode_in short t) ≡ taken t
unfolding encode_in opening opening_store
short-file t w legal few =
    decode-file t (all_in_short t.keys (opening t.keys) t.events) (records_bytes short t.keys (opening t.keys) t.events) w few
    (short-means t.keys (sound-opening t.keys) refl legal)
    (λ s ends. short_back s (header_of t) (opening t.keys) t.events min_bytes w.few-keys w.few-clients w.fitting ends)

-- written long, it is the file of the trace in full
long-records : (keys : ℕ) (g : Configuration) (es : List Event) → records_bytes long keys g es ≡ events_bytes keys es
unfolding records_bytes record_bytes events_bytes
long-records keys g [] = refl
long-records keys g (e ∷ es) = ap (λ rest. event_bytes keys e ++ rest) (long-records keys (step g e) es)

pub long-file : (t : Trace) → encode_in long t ≡ encode t
unfolding encode_in encode
long-file t = ap (file_of t.keys t.clients (length t.events)) (long-records t.keys (opening t.keys) t.events)

-- a trace whose run is legal reads back from its file in either edition, if that is not too long
pub decode-encode_in : (x : Edition) (t : Trace) → WellFormed t → LegalRun (opening t.keys) t.events → length (encode_in x t) ≤ max_bytes → decode (encode_in x t) ≡ taken t
decode-encode_in short t w legal few = short-file t w legal few
decode-encode_in long t w legal few = ap decode (long-file t) ∙ decode-encode t w (subst (λ (s : List ℕ). length s ≤ max_bytes) (long-file t) few)
