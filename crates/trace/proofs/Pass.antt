-- The pass over the records of a file: what it says at each place that it comes to, of the records that are left, and so at its end of the file. Assumes nothing.
use Prim.Native.Nat.{ℕ, suc, ◌+◌, ◌-◌, ◌≤◌, ◌<◌}
use mathlib.Core.Path.{◌≡◌, refl, sym, ◌∙◌, subst}
use mathlib.Core.Logic.{◌≢◌}
use mathlib.Core.List.{List, [], ◌∷◌}
use native.Mathlib.Omega.{arith}
use native.Mathlib.Numerals.{add-one}
use lib.Dec.{leb, leb→le}
use lib.ListN.{length}
use borrow.Author.Tests.{le-leb, lt-leb, eq-eqb, ne_eqb}
use Rattle.search.specs.Choose.{need}
use Rattle.search.proofs.Choose.{choose-ind}
use Rattle.search.proofs.Steps.{need-met, need-unmet}
use Rattle.search.proofs.Tests.{le_is, not_is}
use Rattle.store.specs.Limits.{max_commits}
use Rattle.store.specs.Refusal.{refuse}
use Rattle.trace.specs.Result.{Result, refused}
use Rattle.trace.specs.Entry.{Entry}
use Rattle.trace.specs.Format as Format
use Rattle.trace.specs.Format.{misshapen, whole, record_at, commits_with, on_record, entries_from}
use Rattle.trace.specs.Meaning.{why_number, entry_of, Reading, read_whole, reading_of, PlacesFit, RecordSays, counted_of, Form, misshapen_at, header_of, FormSays}
use Rattle.trace.specs.declared.records.Why.{Why}
use Rattle.trace.specs.declared.records.Why.TheVariants.{Many}
use Rattle.trace.specs.declared.records.Whole.{Whole}
use Rattle.trace.specs.declared.records.Record.{Record}
use Rattle.trace.specs.declared.records.Record.TheVariants.{Shift, Commit}
use Rattle.trace.specs.declared.form.Header.{Header}
use Rattle.std.specs.Prelude.{Ok, Err}
use Rattle.trace.proofs.InForm.{Follows, follows_itself, follows_then, follows-on_taken}

-- the record after this one starts within the file
pub place-within : (s : List ℕ) (keys : ℕ) (r : Record) {next : ℕ} → PlacesFit s keys r next → next ≤ length s
unfolding PlacesFit
place-within s keys (Shift client l) fit = fit.1
place-within s keys (Commit client count session operations l) fit = fit.1

-- a record in a run of `suc n` records, at `at` with number `index`, after `commits` commits
module _ (s : List ℕ) (h : Format.Header) (at index commits n : ℕ) where
  after-whole : (next : ℕ) (x : Entry) → record_at s h at ≡ whole x next → commits_with x commits ≤ max_commits
      → Follows (entries_from s h n next (suc index) (commits_with x commits)) (entries_from s h (suc n) at index commits)
  unfolding entries_from on_record need
  after-whole next x is fits = rw (is, le-leb _ _ fits) (follows-on_taken (entries_from s h n next (suc index) (commits_with x commits)) (λ rs. x ∷ rs))

  -- code 8: "a 64th commit"
  after-too-many : (next : ℕ) (x : Entry) → record_at s h at ≡ whole x next → ¬ (commits_with x commits ≤ max_commits)
      → entries_from s h (suc n) at index commits ≡ refused (refuse 8 index)
  unfolding entries_from on_record need
  after-too-many next x is many = rw (is, lt-leb (commits_with x commits) max_commits (omega (arith, many)))

  after-refusal : (code : ℕ) → record_at s h at ≡ misshapen code → entries_from s h (suc n) at index commits ≡ refused (refuse code index)
  unfolding entries_from on_record
  after-refusal code is = rw is

-- what is said of a record at a place that was read in its turn, with a number and after so many commits: it is there, and a number is left for a commit;
-- or the refusal of the records from there on, however many they are
abbrev pub CountedSays : List ℕ → ℕ → ℕ → ℕ → ℕ → ℕ → Reading → Type 0
CountedSays s at keys clients index commits (Err y) =
    (records n : ℕ) → entries_from s (record { keys = keys; clients = clients; records = records }) (suc n) at index commits ≡ refused (refuse (why_number y) index)
CountedSays s at keys clients index commits (Ok w) = RecordSays s at keys clients (Ok w) × (commits_with (entry_of s keys w.record) commits ≤ max_commits)

pub counted-says : (s : List ℕ) (at keys clients index commits : ℕ) (x : Reading) → RecordSays s at keys clients x → CountedSays s at keys clients index commits (counted_of s keys commits x)
unfolding counted_of reading_of
counted-says s at keys clients index commits (Err y) (says, fit) = λ records n. after-refusal s _ at index commits n (why_number y) (sym (says records))
counted-says s at keys clients index commits (Ok w) (says, fit) =
    choose-ind (CountedSays s at keys clients index commits) (leb (commits_with (entry_of s keys w.record) commits) max_commits) _ _
    (λ t. ((says, fit), leb→le _ _ t))
    (λ t. λ records n. after-too-many s _ at index commits n w.next _ (sym (says records)) ((not_is (leb (commits_with (entry_of s keys w.record) commits) max_commits) (le_is (commits_with (entry_of s keys w.record) commits) max_commits)).0 t))

-- as the code has it: what it answers for the record is what is counted
pub as_read : (s : List ℕ) (at keys clients index commits : ℕ) (x : Reading) → RecordSays s at keys clients x → {y : Reading} → ((t : List ℕ) (k : ℕ) → y ≡ counted_of t k commits x)
    → {z : Reading} → y ≡ z → CountedSays s at keys clients index commits z
as_read s at keys clients index commits x says counted is = subst (CountedSays s at keys clients index commits) (sym (counted s keys) ∙ is) (counted-says s at keys clients index commits x says)

IsWhole : Reading → Type 0
IsWhole (Ok w) = Unit {0}
IsWhole (Err y) = ⊥

-- one that is not refused is what was read
pub counted-kept : (s : List ℕ) (keys commits : ℕ) (x : Reading) {w : Whole} → counted_of s keys commits x ≡ Ok w → counted_of s keys commits x ≡ x
unfolding counted_of IsWhole
counted-kept s keys commits (Err y) is = refl
counted-kept s keys commits (Ok v) {w} is =
    choose-ind (λ (z : Reading). z ≡ Ok w → z ≡ Ok v) (leb (commits_with (entry_of s keys v.record) commits) max_commits) (Ok v) (Err Many)
    (λ t e. refl) (λ t e. absurd (subst IsWhole (sym e) tt)) is

-- the records after one that was read in its turn: what they come to, it comes to with them
pub then-follows : (s : List ℕ) (h : Format.Header) (at index commits left : ℕ) (r : Record) (next : ℕ) → 0 < left → CountedSays s at h.keys h.clients index commits (read_whole r next)
    → Follows (entries_from s h (left - 1) next (index + 1) (commits_with (entry_of s h.keys r) commits)) (entries_from s h left at index commits)
unfolding reading_of
then-follows s h at index commits left r next some ((says, fit), few) =
    let one_more : left ≡ suc (left - 1) = omega arith in
    rw add-one (subst (λ n. Follows (entries_from s h (left - 1) next (suc index) (commits_with (entry_of s h.keys r) commits)) (entries_from s h n at index commits)) (sym one_more)
    (after-whole s h at index commits (left - 1) next _ (sym (says h.records)) few))

-- the record at `at` is the next to be read, the one with this number, `left` are left and so many commits came before it: what they come to, all records come to
pub record InTurn (s : List ℕ) (h : Header) (all : Result (List Entry)) (left at index commits : ℕ) : Type 0 where
  pub within : at ≤ length s
  pub few-made : commits ≤ max_commits
  pub follows : Follows (entries_from s (header_of h) left at index commits) all

pub turn-starts : (s : List ℕ) (h : Header) (left at index commits : ℕ) → at ≤ length s → commits ≤ max_commits → InTurn s h (entries_from s (header_of h) left at index commits) left at index commits
turn-starts s h left at index commits within few = record { within = within; few-made = few; follows = follows_itself _ }

module _ {s : List ℕ} {h : Header} {all : Result (List Entry)} {left at index commits : ℕ} (t : InTurn s h all left at index commits) where
  -- it is there, and the next one is to be read
  pub turn-goes : 0 < left → (r : Record) (next : ℕ) → CountedSays s at h.keys h.clients index commits (read_whole r next) → {count : ℕ} → count ≡ commits_with (entry_of s h.keys r) commits
      → InTurn s h all (left - 1) next (index + 1) count
  turn-goes some r next says counted = rw counted (record {
    within = place-within s h.keys r says.0.1;
    few-made = says.1;
    follows = follows_then (then-follows s (header_of h) at index commits left r next some says) t.follows;
  })

  -- one that is refused in its turn, all are refused for
  pub turn-stops : (w : Why) → 0 < left → CountedSays s at h.keys h.clients index commits (Err w) → FormSays all h (misshapen_at (why_number w) index)
  unfolding FormSays
  turn-stops w some says =
      let one_more : left ≡ suc (left - 1) = omega arith in
      t.follows.refusal _ (subst (λ n. entries_from s (header_of h) n at index commits ≡ refused (refuse (why_number w) index)) (sym one_more) (says h.records (left - 1)))

  -- none is left, and none of the bytes
  pub turn-ends : left ≡ 0 → at ≡ length s → FormSays all h (Ok h)
  unfolding FormSays entries_from
  turn-ends none e =
      let (entries, read) = t.follows.value [] (rw none (sym (need-met _ _ _ (eq-eqb _ _ e) refl))) in
      (refl, entries, read)

  -- code 5: "bytes left after the counted records"
  pub turn-over : left ≡ 0 → at ≢ length s → FormSays all h (misshapen_at 5 h.records)
  unfolding FormSays entries_from
  turn-over none e = t.follows.refusal _ (rw none (sym (need-unmet _ _ _ (ne_eqb _ _ e))))

-- what is said of the records that are left is said of all
pub follows-form : {x y : Result (List Entry)} (h : Header) (f : Form) → Follows x y → FormSays x h f → FormSays y h f
unfolding FormSays
follows-form h (Err m) follows e = follows.refusal _ e
follows-form h (Ok g) follows (same, rs, e) = let (all, read) = follows.value rs e in (same, all, read)

-- where some header is that of a file in form, it is the file's
pub form-whole : (x : Result (List Entry)) (h g : Header) → FormSays x h (Ok g) → FormSays x h (Ok h)
unfolding FormSays
form-whole x h g (same, rs, e) = (refl, rs, e)
