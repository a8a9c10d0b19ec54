-- Where a run stands with its arrays: how it begins, goes on, is refused, and ends. Assumes nothing.
use Rattle.std.specs.Prelude.{Result, Ok, Err}
use Prim.Native.Nat.{ℕ, ◌+◌, ◌-◌, ◌≤◌, ◌<◌}
use mathlib.Core.Path.{◌≡◌, refl, sym, ap, ◌∙◌, subst}
use mathlib.Core.Option.{Option, some, none}
use mathlib.Core.List.{List}
use native.Mathlib.Omega.{arith}
use Rattle.search.specs.Choose.{or_else}
use Rattle.endian.specs.Endian.{Bytes}
use Rattle.store.specs.Limits.{max_clients, min_bytes}
use Rattle.store.specs.Store.{Configuration, opening_store, opening}
use Rattle.store.specs.Image.{ClientsFit}
use Rattle.store.specs.Update.{step, first_along}
use Rattle.store.specs.Refusal.{refuses_event}
use Rattle.store.specs.Sound.{Sound, WithinKeys}
use Rattle.store.specs.View.{FitsView}
use Rattle.trace.specs.Entry.{Entry, shifting, committing, over, commit_meant, event, events_of}
use Rattle.trace.specs.Format.{Header, commits_with, entries_from}
use Rattle.trace.specs.Result.{Result as Decoded}
use Rattle.trace.specs.Meaning.{entry_of, Reading, read_whole, reading_of, RecordSays, counted_of, Form, header_of, FormSays, RestSays}
use Rattle.trace.specs.declared.records.Record.{Record}
use Rattle.trace.specs.declared.form.Header.{Header as CodeHeader}
use Rattle.trace.proofs.Decoded.{ReadAt, record-read}
use Rattle.trace.specs.WellFormed.{FitsEntry}
use Rattle.trace.proofs.Entries.{sound-fits}
use Rattle.trace.proofs.Fits.{commit-fits}
use Rattle.trace.proofs.InForm.{First, entries-first, nothing_left}
use Rattle.trace.proofs.Pass.{CountedSays, counted-says, InTurn, follows-form}
use Rattle.levels.specs.Level.{Level, Failure, fails_event}
use Rattle.state.specs.declared.Refusal.{Refusal}
use Rattle.state.specs.Answers.{refusal_of}
use Rattle.state.specs.Keeps.{Keeps}
use Rattle.verdicts.specs.Verdicts.{KeepsVerdict, KeepsVerdicts}
use Rattle.shifts.specs.Outcomes.{outcome_of}
use Rattle.commits.specs.Records.{ValuesFit, EventDone}
use Rattle.run.specs.Along.{Along}
use Rattle.run.specs.Ran.{Starts, Ended}
use Rattle.run.specs.OneRecord.{Standing, Fitting}
use Rattle.run.proofs.Along.{along-start, commits-after, along-refused, along-end, along-shift, along-commit}

abbrev header : ℕ → ℕ → ℕ → Header
header n clients records = record { keys = n; clients = clients; records = records }

-- ---- the form of the records, as the run reads them

-- a record as it was read in its turn
pub read-turn : (file : List ℕ) (at n clients number made : ℕ) {y : Reading} → ((x : Reading) × RecordSays file at n clients x × (y ≡ counted_of file n made x)) → {z : Reading} → y ≡ z
    → CountedSays file at n clients number made z
read-turn file at n clients number made (x, says, counted) is = subst (CountedSays file at n clients number made) (sym counted ∙ is) (counted-says file at n clients number made x says)

-- the form of the records that are left is that of all
pub turn-rest : {file : List ℕ} {h : CodeHeader} {all : Decoded (List Entry)} {left at number made : ℕ} → InTurn file h all left at number made → number + left ≡ h.records + 1
    → (f : Form) → RestSays file h at number made f → FormSays all h f
turn-rest {file} {h} {all} {left} {at} {number} {made} t numbered f says =
    let so-many : h.records + 1 - number ≡ left = omega arith in
    follows-form h f t.follows (subst (λ (k : ℕ). FormSays (entries_from file (header_of h) k at number made) h f) so-many says)

-- ---- the meaning of the records, where they are in form

-- the run of the records rs stands before record `number`, and the arrays keep what there is
pub record Stands (file : List ℕ) (n clients records : ℕ) (rs : List Entry) (left at number made : ℕ) (versions keys views seen sessions commits links verdicts values : List ℕ) : Type 0 where
  pub g : Configuration
  pub rest : List Entry
  pub fs : Level → Option Failure
  pub along : Along file (header n clients records) (events_of (opening n) rs) left at number g rest fs
  pub counted : g.store.commits ≡ made
  pub keeps : Keeps g versions keys views seen sessions commits links
  pub failures : KeepsVerdicts fs verdicts
  pub small : ValuesFit values

-- failures that are the same at each level
failures-same : {fs gs : Level → Option Failure} {verdicts : List ℕ} → ((l : Level) → gs l ≡ fs l) → KeepsVerdicts fs verdicts → KeepsVerdicts gs verdicts
failures-same {verdicts = verdicts} q k = record { room = k.room; verdict = λ i b. subst (KeepsVerdict verdicts i) (sym (q _)) (k.verdict i b) }

module _ {file : List ℕ} {n clients records : ℕ} {rs : List Entry} where
  pub run-starts : {versions keys views seen sessions commits links verdicts values : List ℕ} → Starts file n clients records rs versions keys views seen sessions commits links verdicts values
      → Stands file n clients records rs records min_bytes 1 0 versions keys views seen sessions commits links verdicts values
  unfolding opening opening_store
  run-starts s = record {
    g = opening n;
    rest = rs;
    fs = λ l. none;
    along = along-start file (header n clients records) rs s.read;
    counted = refl;
    keeps = s.keeps;
    failures = s.no-failure;
    small = s.small;
  }

  module _ {left at number made : ℕ} {versions keys views seen sessions commits links verdicts values : List ℕ}
      (s : Stands file n clients records rs left at number made versions keys views seen sessions commits links verdicts values) where
    pub run_ends : left ≡ 0 → Ended n (events_of (opening n) rs) made versions keys views seen sessions commits links verdicts
    run_ends none_left =
        let h = header n clients records in
        let done = nothing_left file h at number s.g.store.commits left s.rest none_left s.along.read in
        let (no-refusal, ends, verdicts-are) = along-end file h (events_of (opening n) rs) left at number s.g s.rest s.fs s.along done in
        record {
          none-refused = no-refusal;
          counted = ap (λ (g : Configuration). g.store.commits) ends ∙ s.counted;
          sound = subst Sound (sym ends) s.along.sound;
          keys-are = ap (λ (g : Configuration). g.store.keys) ends ∙ s.along.keys-are;
          clients-fit = subst (λ (g : Configuration). ClientsFit g.store) (sym ends) s.along.clients-fit;
          keeps = subst (λ (g : Configuration). Keeps g versions keys views seen sessions commits links) (sym ends) s.keeps;
          failures = failures-same verdicts-are s.failures;
        }

    -- a record is read, with values that fit as well
    pub run-reads : {values' : List ℕ} → (ValuesFit values → ValuesFit values') → Stands file n clients records rs left at number made versions keys views seen sessions commits links verdicts values'
    run-reads fit = record {
      g = s.g;
      rest = s.rest;
      fs = s.fs;
      along = s.along;
      counted = s.counted;
      keeps = s.keeps;
      failures = s.failures;
      small = fit s.small;
    }

    standing : Standing s.g s.fs n made versions keys views seen sessions commits links verdicts values
    standing = record {
      sound = s.along.sound;
      ordered = s.along.ordered;
      keys-are = s.along.keys-are;
      few = s.along.few;
      clients-fit = s.along.clients-fit;
      counted = s.counted;
      keeps = s.keeps;
      failures = s.failures;
      small = s.small;
    }

    module _ (bytes : Bytes file) (few-clients : clients ≤ max_clients) (some_left : 0 < left) (r : Record) (next : ℕ) (says : RecordSays file at n clients (read_whole r next)) where
      read_again : ReadAt file (header n clients records) (reading_of file n (read_whole r next))
      read_again = subst (ReadAt file (header n clients records)) (sym (says.0 records)) (record-read file bytes (header n clients records) at)

      -- what it says fits
      fits : FitsEntry n clients (entry_of file n r)
      unfolding reading_of
      fits = read_again.0

      first : First file (header n clients records) number s.g.store.commits left (entry_of file n r) next s.rest
      unfolding reading_of
      first = entries-first file (header n clients records) at number s.g.store.commits left some_left s.along.read (entry_of file n r) next (says.0 records)

      along-on : (x : Entry) → FitsEntry n clients x → (first : First file (header n clients records) number s.g.store.commits left x next s.rest)
          → refuses_event number s.g (event s.g x) ≡ none
          → Along file (header n clients records) (events_of (opening n) rs) (left - 1) next (number + 1) (step s.g (event s.g x)) first.others (λ l. or_else (s.fs l) (fails_event l number s.g (event s.g x)))
      unfolding event
      along-on (shifting d l) f first q =
          let fits = f s.g (sound-fits s.along.sound s.along.keys-are) in
          along-shift file (header n clients records) (events_of (opening n) rs) left at number s.g s.rest s.fs s.along d l next first
          (subst (λ (k : ℕ). FitsView k (over (s.g.views d) l)) (sym s.along.keys-are) fits.view-fits) q
      along-on (committing d v os l) f first q =
          let c = commit_meant s.g d v os l in
          let fits = f s.g (sound-fits s.along.sound s.along.keys-are) in
          along-commit file (header n clients records) (events_of (opening n) rs) left at number s.g s.rest s.fs s.along d v os l next first
          (subst (λ (k : ℕ). WithinKeys k c) (sym s.along.keys-are) (commit-fits n clients c fits)) (omega (arith, fits.client-below)) q

      module _ (versions' keys' views' seen' sessions' commits' links' verdicts' values' : List ℕ) (o : Result (Unit {0}) Refusal)
          (answer : (g : Configuration) (fs : Level → Option Failure) (clients : ℕ) → Fitting file n clients r
          → Standing g fs n made versions keys views seen sessions commits links verdicts values
          → EventDone number g fs (event g (entry_of file n r)) versions' keys' views' seen' sessions' commits' links' verdicts' values' o) where
        done : EventDone number s.g s.fs (event s.g (entry_of file n r)) versions' keys' views' seen' sessions' commits' links' verdicts' values' o
        done = answer s.g s.fs clients (record { few-clients = few-clients; fits = fits }) standing

        pub run-goes : {count : ℕ} → o ≡ Ok tt → count ≡ commits_with (entry_of file n r) made
            → Stands file n clients records rs (left - 1) next (number + 1) count versions' keys' views' seen' sessions' commits' links' verdicts' values'
        run-goes {count} q counted =
            let (keeps, failures) = done.kept q in
            record {
              g = step s.g (event s.g (entry_of file n r));
              rest = first.others;
              fs = λ l. or_else (s.fs l) (fails_event l number s.g (event s.g (entry_of file n r)));
              along = along-on (entry_of file n r) fits first (sym done.answer ∙ ap outcome_of q);
              counted = commits-after s.g (entry_of file n r) ∙ ap (commits_with (entry_of file n r)) s.counted ∙ sym counted;
              keeps = keeps;
              failures = failures;
              small = done.small;
            }

        pub run-stops : {x : Refusal} → o ≡ Err x
            → first_along refuses_event 1 (opening n) (events_of (opening n) rs) ≡ some (refusal_of x)
        run-stops q =
            along-refused file (header n clients records) (events_of (opening n) rs) left at number s.g s.rest s.fs s.along (entry_of file n r) first.others first.is-first _
            (sym done.answer ∙ ap outcome_of q)
