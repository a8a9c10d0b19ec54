-- The form of a file: answers that follow from answers, records that are read again, and the header before them. Assumes nothing.
use Prim.Native.Nat.{ℕ, suc, ◌+◌, ◌-◌, ◌≤◌, ◌<◌}
use mathlib.Core.Path.{◌≡◌, refl, sym, ap, ◌∙◌}
use mathlib.Core.Bool.{true}
use mathlib.Core.List.{List, [], ◌∷◌}
use native.Mathlib.Omega.{arith}
use native.Mathlib.Numerals.{add-one}
use lib.Dec.{leb, eqb, leb→le}
use lib.ListN.{length}
use Rattle.search.proofs.Choose.{need-taken}
use Rattle.search.proofs.Steps.{need-met}
use Rattle.search.proofs.Tests.{true-T}
use Rattle.endian.specs.Endian.{le_at}
use Rattle.store.specs.Limits.{max_commits, min_bytes, max_bytes}
use Rattle.store.specs.Refusal.{Refusal, refuse}
use Rattle.trace.specs.Result.{Result, refused, taken, on_taken}
use Rattle.trace.specs.Entry.{Entry}
use Rattle.trace.specs.Format as Format
use Rattle.trace.specs.Format.{misshapen, whole, record_at, commits_with, on_record, entries_from, header_at, within_limits, trace_of, decode}
use Rattle.trace.specs.Meaning.{InFormAt, misshapen_at, header_of, FormSays, AllRecordsSay, WholeFile, Headed}
use Rattle.trace.specs.declared.form.Header.{Header}
use Rattle.std.specs.Prelude.{Ok}
use Rattle.trace.proofs.Result.{refused-taken, taken-injective, on_taken-taken}
use Rattle.trace.proofs.Tests.{within_limits-is}

-- ---- answers that follow from answers

-- a refusal of the rest is that of the whole, and where the rest is taken so is the whole
pub record Follows {A : Type 0} (rest all : Result A) : Type 0 where
  pub refusal : (r : Refusal) → rest ≡ refused r → all ≡ refused r
  pub value : (a : A) → rest ≡ taken a → (b : A) × (all ≡ taken b)

pub follows_itself : {A : Type 0} (x : Result A) → Follows x x
follows_itself x = record { refusal = λ r e. e; value = λ a e. (a, e) }

pub follows_then : {A : Type 0} {x y z : Result A} → Follows x y → Follows y z → Follows x z
follows_then f g = record {
  refusal = λ r e. g.refusal r (f.refusal r e);
  value = λ a e. let (b, p) = f.value a e in g.value b p;
}

-- what is made of a value that is taken
pub follows-on_taken : {A : Type 0} (x : Result A) (f : A → A) → Follows x (on_taken x (λ a. taken (f a)))
unfolding on_taken
follows-on_taken x f = record { refusal = λ r e. rw e refl; value = λ a e. (f a, rw e refl) }

-- ---- records that were read once, read again

on_whole-taken : {A : Type 0} (x : Entry) (next n commits : ℕ) (f : Entry → ℕ → ℕ → Result A) {a : A} → on_record (whole x next) n commits f ≡ taken a
    → (commits_with x commits ≤ max_commits) × (f x next (commits_with x commits) ≡ taken a)
unfolding on_record
on_whole-taken x next n commits f e = let (few, rest) = need-taken (leb (commits_with x commits) max_commits) _ _ refused-taken e in (leb→le _ _ few, rest)

on_record-taken : {A : Type 0} (r : Format.Reading) (n commits : ℕ) (f : Entry → ℕ → ℕ → Result A) {a : A} → on_record r n commits f ≡ taken a
    → (x : Entry) × (next : ℕ) × (r ≡ whole x next)
unfolding on_record
on_record-taken (misshapen code) n commits f e = refused-taken e
on_record-taken (whole x next) n commits f e = (x, next, refl)

-- record x, after which the next one starts at `next`, is the first of the records rs, and the others are read from there on
pub record First (s : List ℕ) (h : Format.Header) (index commits left : ℕ) (x : Entry) (next : ℕ) (rs : List Entry) : Type 0 where
  pub others : List Entry
  pub is-first : rs ≡ x ∷ others
  pub few-commits : commits_with x commits ≤ max_commits
  pub others-read : entries_from s h (left - 1) next (index + 1) (commits_with x commits) ≡ taken others

module _ (s : List ℕ) (h : Format.Header) (at index commits left : ℕ) {rs : List Entry} (some : 0 < left) (read : entries_from s h left at index commits ≡ taken rs) where
  go_on : Entry → ℕ → ℕ → Result (List Entry)
  go_on x next count = on_taken (entries_from s h (left - 1) next (suc index) count) (λ others. taken (x ∷ others))

  first_taken : on_record (record_at s h at) index commits go_on ≡ taken rs
  unfolding entries_from go_on
  first_taken = let more : left ≡ suc (left - 1) = omega arith in ap (λ n. entries_from s h n at index commits) (sym more) ∙ read

  -- the first of the records is in form
  pub first-in-form : InFormAt s at h.keys h.clients
  first-in-form =
      let (entry, next, is) = on_record-taken (record_at s h at) index commits go_on first_taken in
      record { records = h.records; entry = entry; next = next; read = is }

  -- and where it was read again, the others follow it
  pub entries-first : (x : Entry) (next : ℕ) → whole x next ≡ record_at s h at → First s h index commits left x next rs
  unfolding go_on
  entries-first x next is =
      let (few, rest) = on_whole-taken x next index commits go_on (ap (λ y. on_record y index commits go_on) is ∙ first_taken) in
      let (others, others-read, all) = on_taken-taken (entries_from s h (left - 1) next (suc index) (commits_with x commits)) _ rest in
      record { others = others; is-first = sym (taken-injective all); few-commits = few; others-read = rw (add-one index) others-read }

-- no record is left where none was counted
pub nothing_left : (s : List ℕ) (h : Format.Header) (at index commits left : ℕ) (rs : List Entry) → left ≡ 0 → entries_from s h left at index commits ≡ taken rs → rs ≡ []
unfolding entries_from
nothing_left s h at index commits left rs none read =
    let (ended, same) = need-taken (eqb at (length s)) _ _ refused-taken (ap (λ n. entries_from s h n at index commits) (sym none) ∙ read) in
    sym (taken-injective same)

-- ---- the file

-- the header, by what was read of it
pub is-header_at : (s : List ℕ) (keys clients records : ℕ) → keys ≡ le_at s 8 1 → clients ≡ le_at s 9 1 → records ≡ le_at s 10 2
    → header_of (record { keys = keys; clients = clients; records = records }) ≡ header_at s
is-header_at s keys clients records k c r = rw (k, c, r)

-- a header that the tests before the records took
pub record Taken (s : List ℕ) (h : Header) : Type 0 where
  pub long : leb min_bytes (length s) ≡ true
  pub short : leb (length s) max_bytes ≡ true
  pub own-length : eqb (le_at s 0 4) (length s) ≡ true
  pub size : eqb (le_at s 4 2) 8 ≡ true
  pub kind : eqb (le_at s 6 2) 1 ≡ true
  pub limits : within_limits (header_of h) ≡ true
  pub few-records : h.records < 65536
  pub is-header : header_of h ≡ header_at s

-- then the file is what its records are
pub headed : {s : List ℕ} {h : Header} → Taken s h → Headed s h
unfolding decode
headed {s} {h} t =
    let (some_key, few-keys, some-client, few-clients) = (within_limits-is (header_of h)).0 (true-T _ t.limits) in
    record {
      long = leb→le _ _ (true-T _ t.long);
      short = leb→le _ _ (true-T _ t.short);
      some_key = some_key;
      few-keys = few-keys;
      some-client = some-client;
      few-clients = few-clients;
      few-records = t.few-records;
      by-records =
          sym
          (need-met _ _ _ t.long
          (need-met _ _ _ t.short
          (need-met _ _ _ t.own-length
          (need-met _ _ _ t.size
          (need-met _ _ _ t.kind
          (need-met _ _ _ (ap within_limits (sym t.is-header) ∙ t.limits)
          (ap (λ (g : Format.Header). on_taken (entries_from s g g.records min_bytes 1 0) (λ rs. taken (trace_of g rs))) t.is-header)))))));
    }

-- and what is said of the records is said of the file: a refusal, or that it is in form
module _ {s : List ℕ} {h : Header} (t : Headed s h) where
  pub records-misshapen : {code n : ℕ} → AllRecordsSay s h (misshapen_at code n) → decode s ≡ refused (refuse code n)
  unfolding FormSays on_taken
  records-misshapen e = t.by-records ∙ rw e refl

  pub records-whole : AllRecordsSay s h (Ok h) → WholeFile s h
  unfolding FormSays on_taken
  records-whole said = record {
    some_key = t.some_key;
    few-keys = t.few-keys;
    some-client = t.some-client;
    few-clients = t.few-clients;
    few-records = t.few-records;
    entries = said.1;
    read = said.2;
    decoded = t.by-records ∙ rw said.2 refl;
  }
