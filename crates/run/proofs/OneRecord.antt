-- One record of a run: what the calls ensure is what its answer says. Assumes nothing.
use Rattle.std.specs.Prelude.{Result, Ok}
use Prim.Native.Nat.{ℕ, ◌+◌, ◌≤◌, ◌<◌}
use mathlib.Core.Path.{◌≡◌, refl, sym, ap, subst}
use mathlib.Core.Option.{Option, some, none}
use mathlib.Core.List.{List}
use native.Mathlib.Omega.{arith}
use Rattle.search.specs.Choose.{or_else}
use Rattle.endian.specs.Endian.{Bytes}
use Rattle.store.specs.Limits.{max_clients, max_commits}
use Rattle.store.specs.Store.{Configuration, opening, next_number, Event, shift, commit}
use Rattle.store.specs.Update.{step}
use Rattle.store.specs.Refusal.{refuses_event}
use Rattle.trace.specs.Entry.{view_meant, event}
use Rattle.trace.specs.Format.{Header, commits_with}
use Rattle.trace.specs.Meaning.{read_whole, listing_of, entry_of, reading_of, PlacesFit, RecordSays}
use Rattle.trace.proofs.Decoded.{ReadAt, record-read}
use Rattle.trace.specs.Sorted.{RecordSorted}
use Rattle.trace.specs.WellFormed.{FitsEvent}
use Rattle.trace.proofs.Entries.{sound-fits, opening-fits}
use Rattle.trace.specs.declared.records.Listing.{Listing}
use Rattle.trace.specs.declared.records.Record.{Record}
use Rattle.trace.specs.declared.records.Record.TheVariants.{Shift, Commit}
use Rattle.levels.specs.Level.{Level, Failure, fails_event}
use Rattle.state.specs.Keeps.{KeepsViews}
use Rattle.verdicts.specs.Verdicts.{KeepsVerdict, KeepsVerdicts}
use Rattle.state.specs.declared.Refusal.{Refusal}
use Rattle.shifts.specs.Outcomes.{outcome_of, ShiftGiven}
use Rattle.commits.specs.declared.record.CommitAt.{CommitAt}
use Rattle.commits.specs.Records.{ValuesFit, SortedIn, commit_in, Recorded, EventDone}
use Rattle.run.specs.OneRecord.{Readable, Standing, Fitting}

-- ---- the record as it was read

-- what is read of a file of bytes lies in it
pub record-readable : (file : List ℕ) → Bytes file → (at n clients made : ℕ) (r : Record) (next : ℕ) → clients ≤ max_clients → RecordSays file at n clients (read_whole r next)
    → commits_with (entry_of file n r) made ≤ max_commits → Readable file n made r
unfolding entry_of reading_of PlacesFit event
record-readable file bytes at n clients made (Shift client l) next few (means, places) room =
    let h : Header = record { keys = n; clients = clients; records = 0 } in
    let read = subst (ReadAt file h) (sym (means 0)) (record-read file bytes h at) in
    let below = (read.0 (opening n) (opening-fits n)).client-below in
    (omega arith, places.0)
record-readable file bytes at n clients made (Commit client count session operations l) next few (means, places) room =
    let h : Header = record { keys = n; clients = clients; records = 0 } in
    let read = subst (ReadAt file h) (sym (means 0)) (record-read file bytes h at) in
    let below = (read.0 (opening n) (opening-fits n)).client-below in
    (omega arith, places.0, places.2, room)

-- ---- a shift

module _ (file : List ℕ) (n client : ℕ) (listing : Listing) (made : ℕ) {r : Record} (is : r ≡ Shift client listing) (number : ℕ) {versions keys views seen views' seen' : List ℕ} (o : Result (Unit {0}) Refusal)
    (answer : (g : Configuration) → ShiftGiven g (view_meant g client (listing_of file n listing)) n versions keys views seen → outcome_of o ≡ refuses_event number g (shift client (view_meant g client (listing_of file n listing))))
    (kept : (g : Configuration) → ShiftGiven g (view_meant g client (listing_of file n listing)) n versions keys views seen → o ≡ Ok tt → KeepsViews (step g (shift client (view_meant g client (listing_of file n listing)))) views' seen') where
  shift-event : (g : Configuration) → shift client (view_meant g client (listing_of file n listing)) ≡ event g (entry_of file n r)
  unfolding entry_of event
  shift-event g = ap (λ (x : Record). event g (entry_of file n x)) (sym is)

  module _ {sessions commits links verdicts values : List ℕ} (g : Configuration) (fs : Level → Option Failure) (s : Standing g fs n made versions keys views seen sessions commits links verdicts values) where
    shift-given : {clients : ℕ} → FitsEvent n clients (shift client (view_meant g client (listing_of file n listing))) → ShiftGiven g (view_meant g client (listing_of file n listing)) n versions keys views seen
    shift-given f = record {
      sound = s.sound;
      ordered = s.ordered;
      few = s.few;
      keys-are = s.keys-are;
      in-versions = s.keeps.in-versions;
      in-keys = s.keeps.in-keys;
      in-views = s.keeps.in-views;
      fits = f.view-fits;
    }

    no-failure : (l : Level) → or_else (fs l) (fails_event l number g (shift client (view_meant g client (listing_of file n listing)))) ≡ fs l
    unfolding or_else fails_event
    no-failure l = or-none (fs l)
      where
        or-none : (o : Option Failure) → or_else o none ≡ o
        or-none none = refl
        or-none (some x) = refl

    shift-done : ShiftGiven g (view_meant g client (listing_of file n listing)) n versions keys views seen
        → EventDone number g fs (shift client (view_meant g client (listing_of file n listing))) versions keys views' seen' sessions commits links verdicts values o
    unfolding step
    shift-done given = record {
      answer = answer g given;
      small = s.small;
      kept = λ q. (
        record {
          in-versions = s.keeps.in-versions;
          in-keys = s.keeps.in-keys;
          in-views = kept g given q;
          in-sessions = s.keeps.in-sessions;
          in-commits = s.keeps.in-commits;
          in-links = s.keeps.in-links;
        },
        record {
          room = s.failures.room;
          verdict = λ i b. subst (KeepsVerdict verdicts i) (sym (no-failure _)) (s.failures.verdict i b);
        },
      );
    }

    pub shift_one : (clients : ℕ) → Fitting file n clients r → EventDone number g fs (event g (entry_of file n r)) versions keys views' seen' sessions commits links verdicts values o
    shift_one clients f =
        subst (λ (e : Event). EventDone number g fs e versions keys views' seen' sessions commits links verdicts values o) (shift-event g)
        (shift-done (shift-given (subst (FitsEvent n clients) (sym (shift-event g)) (f.fits g (sound-fits s.sound s.keys-are)))))

-- ---- a commit

module _ (file : List ℕ) (n : ℕ) (at : CommitAt) (made : ℕ) {r : Record} (is : r ≡ Commit at.client at.count at.session at.operations at.listing) where
  commit-event : (g : Configuration) → commit (commit_in g file at n) ≡ event g (entry_of file n r)
  unfolding entry_of event
  commit-event g = ap (λ (x : Record). event g (entry_of file n x)) (sym is)

  -- its operations come sorted
  pub sorted-in : (values : List ℕ) → RecordSorted file at.ranks values r → SortedIn file at values
  unfolding RecordSorted
  sorted-in values s = subst (RecordSorted file at.ranks values) is s

  module _ (number : ℕ) {versions keys views seen sessions commits links verdicts values : List ℕ} {versions' keys' views' seen' sessions' commits' links' verdicts' : List ℕ} (values' : List ℕ) (o : Result (Unit {0}) Refusal)
      (done : (g : Configuration) (clients : ℕ) (fs : Level → Option Failure)
      → Recorded g (commit_in g file at n) clients n versions keys views seen sessions commits links → next_number g.store ≡ made + 1 → ValuesFit values → KeepsVerdicts fs verdicts
      → EventDone number g fs (commit (commit_in g file at n)) versions' keys' views' seen' sessions' commits' links' verdicts' values' o)
      (g : Configuration) (fs : Level → Option Failure) (s : Standing g fs n made versions keys views seen sessions commits links verdicts values) (room : made < max_commits) where
    recorded : (clients : ℕ) → clients ≤ max_clients → FitsEvent n clients (commit (commit_in g file at n))
        → Recorded g (commit_in g file at n) clients n versions keys views seen sessions commits links
    recorded clients few f = record {
      sound = s.sound;
      ordered = s.ordered;
      keys-are = s.keys-are;
      room-left = omega (arith, s.counted);
      clients-fit = s.clients-fit;
      few-clients = few;
      fits = f;
      keeps = s.keeps;
    }

    pub commit-one : (clients : ℕ) → Fitting file n clients r
        → EventDone number g fs (event g (entry_of file n r)) versions' keys' views' seen' sessions' commits' links' verdicts' values' o
    commit-one clients f =
        subst (λ (e : Event). EventDone number g fs e versions' keys' views' seen' sessions' commits' links' verdicts' values' o) (commit-event g)
        (done g clients fs (recorded clients f.few-clients (subst (FitsEvent n clients) (sym (commit-event g)) (f.fits g (sound-fits s.sound s.keys-are)))) (omega (arith, s.counted)) s.small s.failures)
