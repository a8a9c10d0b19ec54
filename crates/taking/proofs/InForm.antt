-- A file in form: its records start on the opening arrays, and where they were run to their end the trace is taken. Assumes nothing.
use Prim.Native.Nat.{ℕ, ◌≤◌, zero-le}
use mathlib.Core.Path.{◌≡◌, ◌∙◌, subst}
use mathlib.Core.Option.{Option, some}
use mathlib.Core.List.{List}
use native.Mathlib.Omega.{arith}
use Rattle.endian.specs.Endian.{Bytes}
use Rattle.store.specs.Limits.{max_commits, min_bytes}
use Rattle.store.specs.Store.{opening, opening_store, Event}
use Rattle.store.specs.Update.{first_along}
use Rattle.store.specs.Refusal.{refuse, refuses_event}
use Rattle.store.proofs.Run.{final-commits}
use Rattle.trace.specs.Result.{refused}
use Rattle.trace.specs.Format.{Trace, trace_of}
use Rattle.trace.specs.Meaning.{Form, header_of, AllRecordsSay, WholeFile, Headed, HeaderSays}
use Rattle.trace.specs.declared.form.Header.{Header}
use Rattle.trace.specs.declared.form.Misshapen.{Misshapen}
use Rattle.trace.proofs.Decoded.{IfTaken, EntriesRead, entries-read}
use Rattle.trace.proofs.Entries.{length-events_of}
use Rattle.trace.proofs.InForm.{records-misshapen, records-whole}
use Rattle.levels.specs.Level.{Level, Failure, first_failure}
use Rattle.answer.specs.Answer.{accept, verdict}
use Rattle.state.specs.Places.{seen_length, sessions_length, links_length, values_length}
use Rattle.state.proofs.Opening.{filled, keeps-opening}
use Rattle.state.specs.Keeps.{Keeps}
use Rattle.state.specs.Answers.{refusal_of}
use Rattle.state.specs.declared.Refusal.{Refusal}
use Rattle.verdicts.specs.Verdicts.{verdicts_length, KeepsVerdicts}
use Rattle.verdicts.specs.Told.{tell_all, verdicts_of}
use Rattle.verdicts.specs.declared.told.Verdicts.{Verdicts}
use Rattle.taking.proofs.Fresh.{no-failure, no_value}
use Rattle.std.specs.Prelude.{Ok, Err}
use Rattle.run.specs.Ran.{Ran, form_of, Starts, Ended, RanSays}
use Rattle.run.specs.declared.Stop.TheVariants as Stops
use Rattle.taking.specs.Taking.{Opened, Takes}
use Rattle.taking.proofs.Accepted.{misshapen, accepted}

-- the trace of a file in form
abbrev pub trace_in : {s : List ℕ} {h : Header} → WholeFile s h → Trace
trace_in {s} {h} w = trace_of (header_of h) w.entries

-- ---- at the start

-- the arrays keep the opening store
pub opens : {s : List ℕ} {h : Header} → Headed s h → {versions keys views seen sessions commits links : List ℕ} → Opened versions keys commits views
    → seen ≡ filled seen_length 1 → sessions ≡ filled sessions_length 0 → links ≡ filled links_length 0
    → Keeps (opening h.keys) versions keys views seen sessions commits links
opens {s} {h} t o e3 e4 e6 = rw (o.in-versions, o.in-keys, o.in-commits, o.in-views, e3, e4, e6) (keeps-opening h.keys t.some_key t.few-keys)

-- the records of a file in form start on them, with no failure
pub starts : {s : List ℕ} {h : Header} (w : WholeFile s h) {versions keys views seen sessions commits links verdicts values : List ℕ}
    → Keeps (opening h.keys) versions keys views seen sessions commits links → verdicts ≡ filled verdicts_length 0 → values ≡ filled values_length 0
    → Starts s h.keys h.clients h.records w.entries versions keys views seen sessions commits links verdicts values
starts {s} {h} w k e7 e8 =
    rw (e7, e8) (record {
      some_key = w.some_key;
      few-keys = w.few-keys;
      some-client = w.some-client;
      few-clients = w.few-clients;
      read = w.read;
      keeps = k;
      no-failure = no-failure;
      small = no_value;
    })

-- ---- at the end

-- what was read of the records
records-read : {s : List ℕ} → Bytes s → {h : Header} (w : WholeFile s h) → EntriesRead (header_of h) h.records 0 w.entries
records-read {s} b {h} w = subst (IfTaken (EntriesRead (header_of h) h.records 0)) w.read (entries-read s b (header_of h) h.records min_bytes 1 0 zero-le)

module _ {s : List ℕ} (b : Bytes s) {h : Header} (w : WholeFile s h) {count : ℕ} {versions keys views seen sessions commits links verdicts : List ℕ}
    (e : Ended h.keys (trace_in w).events count versions keys views seen sessions commits links verdicts) where
  -- the commits that were made are few
  few-made : count ≤ max_commits
  unfolding opening opening_store
  few-made =
      let r = (records-read b w).few-commits (opening h.keys) in
      let f = final-commits (opening h.keys) (trace_in w).events in
      let c = e.counted in
      omega arith

  -- the trace is taken: the arrays keep its last store, and the verdicts told are its own
  pub takes : {vs : Verdicts} → ((fs : Level → Option Failure) → KeepsVerdicts fs verdicts → verdicts_of vs ≡ tell_all fs)
      → Takes s (trace_in w) versions keys commits views h count vs
  unfolding first_failure
  takes told = record {
    in-form = w;
    accepted = accepted s (trace_in w) w.decoded e.none-refused;
    in-versions = e.keeps.in-versions;
    in-keys = e.keeps.in-keys;
    in-commits = e.keeps.in-commits;
    views-room = e.keeps.in-views.room;
    in-views = e.keeps.in-views.stored;
    all-keys = e.keys-are;
    all-records = length-events_of (opening h.keys) w.entries ∙ (records-read b w).counted;
    all-commits = e.counted;
    few-commits = few-made;
    sound = e.sound.store;
    clients-fit = e.clients-fit;
    told = told (λ l. verdict l (trace_in w)) e.failures;
  }

-- ---- what the calls answer, case by case

pub headed-of : {s : List ℕ} {f : Form} {h : Header} → HeaderSays s f → f ≡ Ok h → Headed s h
unfolding HeaderSays
headed-of {s} says e = subst (HeaderSays s) e says

-- a file that has no header is refused
pub misshapen-of : (s : List ℕ) {f : Form} {m : Misshapen} → HeaderSays s f → f ≡ Err m → accept s ≡ refused (refuse m.code m.record)
unfolding HeaderSays
misshapen-of s says e = misshapen s _ (subst (HeaderSays s) e says)

-- what the run of its records came to: they are not in form, or they are
module _ {s : List ℕ} {h : Header} (t : Headed s h) (r : Ran) (says : AllRecordsSay s h (form_of h r)) where
  pub ran-misshapen : {m : Misshapen} → r ≡ Err (Stops.Misshapen m) → accept s ≡ refused (refuse m.code m.record)
  ran-misshapen e = misshapen s _ (records-misshapen t (subst (λ (x : Ran). AllRecordsSay s h (form_of h x)) e says))

  pub whole-refused : {why : Refusal} → r ≡ Err (Stops.Refused why) → WholeFile s h
  whole-refused e = records-whole t (subst (λ (x : Ran). AllRecordsSay s h (form_of h x)) e says)

  pub whole-done : {count : ℕ} → r ≡ Ok count → WholeFile s h
  whole-done e = records-whole t (subst (λ (x : Ran). AllRecordsSay s h (form_of h x)) e says)

module _ (n : ℕ) (es : List Event) (versions keys views seen sessions commits links verdicts : List ℕ) (r : Ran) (says : RanSays n es versions keys views seen sessions commits links verdicts r) where
  pub ran-done : {count : ℕ} → r ≡ Ok count → Ended n es count versions keys views seen sessions commits links verdicts
  ran-done e = subst (RanSays n es versions keys views seen sessions commits links verdicts) e says

  pub ran-refused : {why : Refusal} → r ≡ Err (Stops.Refused why) → first_along refuses_event 1 (opening n) es ≡ some (refusal_of why)
  ran-refused e = subst (RanSays n es versions keys views seen sessions commits links verdicts) e says
