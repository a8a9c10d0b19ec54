-- A file of kinds 2 and 3 is the long file of the trace that it has, byte for byte. Assumes nothing.
use Prim.Native.Nat.{ℕ, zero, suc, ◌+◌, ◌*◌, ◌/◌, ◌≤◌, ◌<◌, zero-le}
use mathlib.Core.Path.{◌≡◌, refl, sym, ap, ◌∙◌, subst}
use mathlib.Core.Bool.{Bool, true, false, ◌||◌, not}
use mathlib.Core.List.{List, [], ◌∷◌, ◌++◌}
use native.Mathlib.Omega.{arith}
use lib.Dec.{T, eqb, ltb, eqb→eq, lt→ltb}
use lib.ListN.{length, get_or, length-append}
use lib.Seq.{ext_get_or}
use mir.Facts.{and_yes}
use Rattle.search.proofs.Choose.{choose_yes, choose-ind, need-ind}
use Rattle.endian.specs.Endian.{Bytes, le_at, le_bytes, pieces}
use Rattle.endian.proofs.Laws.{length-le_bytes, length-pieces}
use Rattle.store.specs.Limits.{min_bytes}
use Rattle.store.specs.Store.{Configuration, opening, shift}
use Rattle.store.specs.Update.{step}
use Rattle.trace.specs.Result.{Result, refused, taken, on_taken}
use Rattle.trace.specs.Entry.{Entry, listed_or, over, event, events_of}
use Rattle.trace.specs.Format.{Header, Trace, view_at, operation_at, operations_at, rank_at, operation_fits, operations_fit, Reading, misshapen, whole, shift_at, commit_length, commit_read, commit_of, commit_at, record_at, commits_with, on_record, entries_from, header_at, trace_of, decode}
use Rattle.trace.specs.Encode.{operation_bytes, operations_bytes, view_bytes, event_bytes, events_bytes, file_head, encode}
use Rattle.trace.specs.Edition.{long_from, only_long}
use Rattle.trace.proofs.Sizes.{length-operation_bytes, length-operations_bytes, length-event_bytes, length-file_head, length-file_of}
use Rattle.trace.proofs.Tests.{operation_fits-is}
use Rattle.trace.proofs.Entries.{length-events_of}
use Rattle.trace.proofs.Decoded.{IfTaken, EntriesRead, on_taken-ind, access_number-access_of, length-operations_at, entries-read}

-- ---- bytes that a file shows at a place

unfoldable Shows : List ℕ → ℕ → List ℕ → Type 0
Shows s at [] = Unit {0}
Shows s at (x ∷ xs) = (x ≡ get_or s at 0) × Shows s (at + 1) xs

shows-at : (s : List ℕ) {at place : ℕ} (xs : List ℕ) → at ≡ place → Shows s at xs → Shows s place xs
shows-at s xs e h = subst (λ (n : ℕ). Shows s n xs) e h

shows-append : (s : List ℕ) (at : ℕ) (xs ys : List ℕ) → Shows s at xs → Shows s (at + length xs) ys → Shows s at (xs ++ ys)
unfolding Shows
shows-append s at [] ys h k = let e : at + 0 ≡ at = omega arith in subst (λ (n : ℕ). Shows s n ys) e k
shows-append s at (x ∷ xs) ys h k =
    let e : at + length (x ∷ xs) ≡ at + 1 + length xs = omega arith in
    (h.0, shows-append s (at + 1) xs ys h.1 (subst (λ (n : ℕ). Shows s n ys) e k))

shown : (s : List ℕ) (at : ℕ) (xs : List ℕ) → Shows s at xs → (i : ℕ) → i < length xs → get_or xs i 0 ≡ get_or s (at + i) 0
unfolding Shows
shown s at [] h i l = absurd (omega arith)
shown s at (x ∷ xs) h zero l = h.0 ∙ ap (λ (n : ℕ). get_or s n 0) (let e : at ≡ at + 0 = omega arith in e)
shown s at (x ∷ xs) h (suc i) l = shown s (at + 1) xs h.1 i (omega arith) ∙ ap (λ (n : ℕ). get_or s n 0) (let e : at + 1 + i ≡ at + suc i = omega arith in e)

-- a file that shows as many bytes as it has is these bytes
shows-all : (s xs : List ℕ) → length xs ≡ length s → Shows s 0 xs → xs ≡ s
shows-all s xs e h = ext_get_or 0 xs s e (λ i l. shown s 0 xs h i l ∙ ap (λ (n : ℕ). get_or s n 0) (let z : 0 + i ≡ i = omega arith in z))

module _ (s : List ℕ) (bytes : Bytes s) where
  shows-none : (at : ℕ) → Shows s at []
  unfolding Shows
  shows-none at = tt

  -- the bytes of the number that stands at a place
  shows-number : (n at v : ℕ) → v ≡ le_at s at n → Shows s at (le_bytes n v)
  unfolding le_bytes le_at Shows
  shows-number zero at v e = tt
  shows-number (suc n) at v e =
      let low = bytes at in
      (omega arith, shows-number n (at + 1) (v / 256) (omega arith))

  -- and what stands behind it
  shows_then : (n at v : ℕ) (xs : List ℕ) (next : ℕ) → at + n ≡ next → v ≡ le_at s at n → Shows s next xs → Shows s at (le_bytes n v ++ xs)
  shows_then n at v xs next e is rest =
      shows-append s at (le_bytes n v) xs (shows-number n at v is) (shows-at s xs (sym e ∙ ap (λ (k : ℕ). at + k) (sym (length-le_bytes n v))) rest)

  mask : (at keys k : ℕ) → k < keys → view_at s at keys k ≡ le_at s (at + 8 * k) 8
  unfolding view_at
  mask at keys k l = choose_yes (ltb k keys) (le_at s (at + 8 * k) 8) 0 (lt→ltb k keys l)

  shows-masks : (at keys n : ℕ) → n ≤ keys → Shows s at (pieces n (λ k. le_bytes 8 (view_at s at keys k)))
  unfolding pieces
  shows-masks at keys zero few = shows-none at
  shows-masks at keys (suc n) few =
      let sizes = length-pieces n 8 (λ k. le_bytes 8 (view_at s at keys k)) (λ k. length-le_bytes 8 (view_at s at keys k)) in
      shows-append s at (pieces n (λ k. le_bytes 8 (view_at s at keys k))) (le_bytes 8 (view_at s at keys n)) (shows-masks at keys n (omega arith))
      (shows-number 8 (at + length (pieces n (λ k. le_bytes 8 (view_at s at keys k)))) (view_at s at keys n) (mask at keys n (omega arith) ∙ ap (λ (k : ℕ). le_at s (at + k) 8) (sym sizes)))

  shows-view : (at keys : ℕ) → Shows s at (view_bytes keys (view_at s at keys))
  unfolding view_bytes
  shows-view at keys = shows-masks at keys keys (omega arith)

  shows-operation : (at keys low : ℕ) → T (operation_fits s at keys low) → Shows s at (operation_bytes (operation_at s at))
  unfolding operation_bytes
  shows-operation at keys low t =
      let (access, key, zeros, rises) = (operation_fits-is s at keys low).0 t in
      shows_then 1 at _ _ (at + 1) refl (access_number-access_of (le_at s at 1) access)
      (shows_then 1 (at + 1) _ _ (at + 2) (omega arith) refl
      (shows_then 2 (at + 2) _ _ (at + 4) (omega arith) (sym zeros)
      (shows-number 4 (at + 4) _ refl)))

  shows-operations : (m at keys low : ℕ) → T (operations_fit s at keys low m) → Shows s at (operations_bytes (operations_at s at m))
  unfolding operations_fit operations_at operations_bytes
  shows-operations zero at keys low t = shows-none at
  shows-operations (suc m) at keys low t =
      let (first, others) = and_yes (operation_fits s at keys low) (operations_fit s (at + 8) keys (suc (rank_at s at)) m) t in
      shows-append s at (operation_bytes (operation_at s at)) (operations_bytes (operations_at s (at + 8) m)) (shows-operation at keys low first)
      (shows-at s (operations_bytes (operations_at s (at + 8) m)) (ap (λ (k : ℕ). at + k) (sym (length-operation_bytes (operation_at s at))))
      (shows-operations m (at + 8) keys (suc (rank_at s at)) others))

  -- ---- one record

  -- of a record of kind 2 or 3: the file shows what is written for its meaning, and it ends where its length says
  abbrev AgainAt : Header → ℕ → Reading → Type 0
  AgainAt h at (misshapen code) = Unit {0}
  AgainAt h at (whole r next) =
      ((g : Configuration) → Shows s at (event_bytes h.keys (event g r)) × (at + length (event_bytes h.keys (event g r)) ≡ next)) × (next ≡ at + le_at s at 2)

  shift-again : (h : Header) (at : ℕ) → le_at s (at + 2) 2 ≡ 2 → AgainAt h at (shift_at s h at)
  unfolding shift_at event over listed_or event_bytes
  shift-again h at kind =
      need-ind (AgainAt h at) _ _ _ tt (λ size.
      need-ind (AgainAt h at) _ _ _ tt (λ within.
      need-ind (AgainAt h at) _ _ _ tt (λ client.
      need-ind (AgainAt h at) _ _ _ tt (λ spare. (
        λ g. (
          shows_then 2 at _ _ (at + 2) refl (sym (eqb→eq _ _ size))
              (shows_then 2 (at + 2) _ _ (at + 4) (omega arith) (sym kind)
              (shows_then 1 (at + 4) _ _ (at + 5) (omega arith) refl
              (shows_then 1 (at + 5) _ _ (at + 6) (omega arith) (sym (eqb→eq _ _ spare))
              (shows-view (at + 6) h.keys)))),
          ap (λ (n : ℕ). at + n) (length-event_bytes h.keys (shift (le_at s (at + 4) 1) (view_at s (at + 6) h.keys))),
        ),
        ap (λ (n : ℕ). at + n) (sym (eqb→eq _ _ size)),
      )))))

  commit-of-again : (h : Header) (at m : ℕ) → le_at s (at + 2) 2 ≡ 3 → m ≡ le_at s (at + 5) 1 → AgainAt h at (commit_of s h at m)
  unfolding commit_of event over listed_or event_bytes
  commit-of-again h at m kind count =
      let same = length-operations_at s (at + 10) m in
      need-ind (AgainAt h at) _ _ _ tt (λ size.
      need-ind (AgainAt h at) _ _ _ tt (λ within.
      need-ind (AgainAt h at) _ _ _ tt (λ client.
      need-ind (AgainAt h at) _ _ _ tt (λ fit.
      let size_is = eqb→eq _ _ size in (
        λ g. (
          shows_then 2 at _ _ (at + 2) refl (ap (λ (k : ℕ). commit_length h.keys k) same ∙ sym size_is)
              (shows_then 2 (at + 2) _ _ (at + 4) (omega arith) (sym kind)
              (shows_then 1 (at + 4) _ _ (at + 5) (omega arith) refl
              (shows_then 1 (at + 5) _ _ (at + 6) (omega arith) (same ∙ count)
              (shows_then 4 (at + 6) _ _ (at + 10) (omega arith) refl
              (shows-append s (at + 10) (operations_bytes (operations_at s (at + 10) m)) _ (shows-operations m (at + 10) h.keys 0 fit)
              (shows-at s _ (masks-place (length-operations_bytes (operations_at s (at + 10) m)) same)
              (shows-view (at + (10 + 8 * m)) h.keys))))))),
          ap (λ (n : ℕ). at + n) (length-event_bytes h.keys (event g (commit_read s at h.keys m)) ∙ ap (λ (k : ℕ). commit_length h.keys k) same),
        ),
        ap (λ (n : ℕ). at + n) (sym size_is),
      )))))
    where
      masks-place : {a b : ℕ} → a ≡ 8 * b → b ≡ m → at + (10 + 8 * m) ≡ at + 10 + a
      masks-place p q = omega arith

  commit-again : (h : Header) (at : ℕ) → le_at s (at + 2) 2 ≡ 3 → AgainAt h at (commit_at s h at)
  unfolding commit_at
  commit-again h at kind = need-ind (AgainAt h at) _ _ _ tt (λ within. commit-of-again h at (le_at s (at + 5) 1) kind refl)

  record-again : (h : Header) (at : ℕ) → T (eqb (le_at s (at + 2) 2) 2 || eqb (le_at s (at + 2) 2) 3) → AgainAt h at (record_at s h at)
  unfolding record_at
  record-again h at long =
      need-ind (AgainAt h at) _ _ _ tt (λ four.
      choose-ind (AgainAt h at) _ _ _ (λ two. shift-again h at (eqb→eq _ _ two)) (λ not-two.
      choose-ind (AgainAt h at) _ _ _ (λ three. commit-again h at (eqb→eq _ _ three)) (λ not_three.
      absurd (neither (eqb (le_at s (at + 2) 2) 2) (eqb (le_at s (at + 2) 2) 3) long not-two not_three))))
    where
      neither : (a b : Bool) → T (a || b) → T (not a) → ¬ T (not b)
      neither true b l n m = n
      neither false true l n m = m
      neither false false l n m = l

  -- ---- all records

  -- of records up to the end of the file
  abbrev AllAgain : Header → ℕ → ℕ → List Entry → Type 0
  AllAgain h left at rs =
      T (long_from s left at) → (g : Configuration) → Shows s at (events_bytes h.keys (events_of g rs)) × (at + length (events_bytes h.keys (events_of g rs)) ≡ length s)

  entries-again : (h : Header) (left at n commits : ℕ) → IfTaken (AllAgain h left at) (entries_from s h left at n commits)
  unfolding entries_from events_of events_bytes long_from on_record
  entries-again h zero at n commits = need-ind (IfTaken (AllAgain h zero at)) _ _ _ tt (λ end long g. (shows-none at, let is = eqb→eq at (length s) end in omega arith))
  entries-again h (suc left) at n commits = go (record_at s h at) (record-again h at)
      (λ next c. entries-again h left next (suc n) c)
    where
      go : (x : Reading) → (T (eqb (le_at s (at + 2) 2) 2 || eqb (le_at s (at + 2) 2) 3) → AgainAt h at x)
          → ((next c : ℕ) → IfTaken (AllAgain h left next) (entries_from s h left next (suc n) c))
          → IfTaken (AllAgain h (suc left) at) (on_record x n commits (λ r next c. on_taken (entries_from s h left next (suc n) c) (λ rs. taken (r ∷ rs))))
      go (misshapen code) first rest = tt
      go (whole r next) first rest =
          need-ind (IfTaken (AllAgain h (suc left) at)) _ _ _ tt (λ few.
          on_taken-ind (AllAgain h left next) (AllAgain h (suc left) at) _ _ (rest next (commits_with r commits)) (λ rs again long g.
          let (kind, more) = and_yes (eqb (le_at s (at + 2) 2) 2 || eqb (le_at s (at + 2) 2) 3) (long_from s left (at + le_at s at 2)) long in
          let read = first kind in
          let (shows, ends) = read.0 g in
          let (others, to_the_end) = again (subst (λ (m : ℕ). T (long_from s left m)) (sym read.1) more) (step g (event g r)) in
          let bytes_of = event_bytes h.keys (event g r) in
          let bytes-behind = events_bytes h.keys (events_of (step g (event g r)) rs) in
          let sizes = length-append bytes_of bytes-behind in
          (shows-append s at bytes_of bytes-behind shows (shows-at s bytes-behind (sym ends) others), omega arith)))

  -- ---- the file

  file-again : IfTaken (λ (t : Trace). T (only_long s) → encode t ≡ s) (decode s)
  unfolding decode encode file_head
  file-again =
      let P : Trace → Type 0 = λ t. T (only_long s) → encode t ≡ s in
      need-ind (IfTaken P) _ _ _ tt (λ least.
      need-ind (IfTaken P) _ _ _ tt (λ most.
      need-ind (IfTaken P) _ _ _ tt (λ field.
      need-ind (IfTaken P) _ _ _ tt (λ size.
      need-ind (IfTaken P) _ _ _ tt (λ kind.
      need-ind (IfTaken P) _ _ _ tt (λ limits.
      on_taken-ind (λ (rs : List Entry). AllAgain (header_at s) (header_at s).records min_bytes rs × (length rs ≡ (header_at s).records)) P _ _
      (both_read (header_at s))
      (λ rs again long. whole_again rs (again.0 long (opening (header_at s).keys)) again.1 (eqb→eq _ _ field) (eqb→eq _ _ size) (eqb→eq _ _ kind))))))))
    where
      both_read : (h : Header) → IfTaken (λ (rs : List Entry). AllAgain h h.records min_bytes rs × (length rs ≡ h.records)) (entries_from s h h.records min_bytes 1 0)
      both_read h = pair (entries_from s h h.records min_bytes 1 0) (entries-again h h.records min_bytes 1 0) (entries-read s bytes h h.records min_bytes 1 0 zero-le)
        where
          pair : (x : Result (List Entry)) → IfTaken (AllAgain h h.records min_bytes) x → IfTaken (EntriesRead h h.records 0) x
              → IfTaken (λ (rs : List Entry). AllAgain h h.records min_bytes rs × (length rs ≡ h.records)) x
          pair (refused r) a b = tt
          pair (taken rs) a b = (a, b.counted)

      whole_again : (rs : List Entry) → Shows s min_bytes (events_bytes (header_at s).keys (events_of (opening (header_at s).keys) rs)) × (min_bytes + length (events_bytes (header_at s).keys (events_of (opening (header_at s).keys) rs)) ≡ length s)
          → length rs ≡ (header_at s).records → le_at s 0 4 ≡ length s → le_at s 4 2 ≡ 8 → le_at s 6 2 ≡ 1 → encode (trace_of (header_at s) rs) ≡ s
      whole_again rs (shows, ends) count field size kind =
          let t = trace_of (header_at s) rs in
          let body = events_bytes t.keys t.events in
          let head = file_head (min_bytes + length body) t.keys t.clients (length t.events) in
          let sizes = length-file_of t.keys t.clients (length t.events) body in
          let head-size = length-file_head (min_bytes + length body) t.keys t.clients (length t.events) in
          let behind : 12 ≡ 0 + length head = omega arith in
          shows-all s (encode t) (omega arith)
          (shows-append s 0 head body
          (shows_then 4 0 _ _ 4 refl (omega arith)
          (shows_then 2 4 _ _ 6 refl (sym size)
          (shows_then 2 6 _ _ 8 refl (sym kind)
          (shows_then 1 8 _ _ 9 refl refl
          (shows_then 1 9 _ _ 10 refl refl
          (shows-number 2 10 _ (length-events_of (opening (header_at s).keys) rs ∙ count)))))))
          (shows-at s body behind shows))

  -- a file of kinds 2 and 3 is the long file of its trace
  pub encode-decode : (t : Trace) → decode s ≡ taken t → T (only_long s) → encode t ≡ s
  encode-decode t e = subst (IfTaken (λ (t : Trace). T (only_long s) → encode t ≡ s)) e file-again
