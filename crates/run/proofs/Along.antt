-- How the run of a trace begins, goes on after a record, is refused at one, and ends. Assumes nothing.
use Prim.Native.Nat.{ℕ, suc, ◌+◌, ◌-◌, ◌≤◌, ◌<◌}
use mathlib.Core.Path.{◌≡◌, refl, sym, ap, ◌∙◌, subst, subst₂}
use mathlib.Core.Option.{Option, some, none}
use mathlib.Core.List.{List, [], ◌∷◌}
use native.Mathlib.Omega.{arith}
use native.Mathlib.Numerals.{add-one}
use native.Mathlib.Decide.{ℕ_discrete}
use Rattle.search.specs.Choose.{or_else}
use Rattle.store.specs.Limits.{max_commits, min_bytes}
use Rattle.store.specs.Store.{Configuration, opening_store, opening, next_number, Client, SessionNumber, Operation, Event}
use Rattle.store.specs.Image.{ClientsFit}
use Rattle.store.specs.Update.{update, step, view_before, store_after, final, first_along}
use Rattle.store.specs.Refusal.{Refusal, refuses_event}
use Rattle.store.proofs.Updated.{at_same, at_other}
use Rattle.store.specs.Sound.{Sound, WithinKeys}
use Rattle.store.specs.View.{FitsView}
use Rattle.store.proofs.Sound.{sound-opening, sound-shift, sound-commit}
use Rattle.store.proofs.Legal.{legal-shift, legal-commit}
use Rattle.trace.specs.Result.{taken}
use Rattle.trace.specs.Entry.{Listed, Entry, shifting, committing, over, commit_meant, event, events_of}
use Rattle.trace.specs.Format.{Header, commits_with, entries_from}
use Rattle.trace.proofs.InForm.{First}
use Rattle.levels.specs.Level.{Level, Failure, fails_event}
use Rattle.growth.proofs.Made.{legal-made}
use Rattle.growth.specs.Ordered.{Ordered}
use Rattle.growth.proofs.Ordered.{ordered-opening, ordered-commit}
use Rattle.run.specs.Along.{Along}

-- at the start all records are to come, and no level has failed
pub along-start : (bytes : List ℕ) (h : Header) (rs : List Entry) → entries_from bytes h h.records min_bytes 1 0 ≡ taken rs
    → Along bytes h (events_of (opening h.keys) rs) h.records min_bytes 1 (opening h.keys) rs (λ l. none)
unfolding opening opening_store or_else
along-start bytes h rs e = record {
  read = e;
  refusals = refl;
  ends = refl;
  verdicts = λ l. refl;
  sound = sound-opening h.keys;
  ordered = ordered-opening h.keys;
  keys-are = refl;
  few = omega arith;
  clients-fit = λ t p l. absurd (omega arith);
}

-- how many commits there are once a record is done
pub commits-after : (g : Configuration) (x : Entry) → (step g (event g x)).store.commits ≡ commits_with x g.store.commits
unfolding step update event
commits-after g (shifting d l) = refl
commits-after g (committing d v os l) = refl

module _ (bytes : List ℕ) (h : Header) (es : List Event) (left at n : ℕ) (g : Configuration) (rest : List Entry) (fs : Level → Option Failure)
    (a : Along bytes h es left at n g rest fs) where
  -- a record that is refused is the first
  pub along-refused : (x : Entry) (others : List Entry) → rest ≡ x ∷ others → (r : Refusal) → refuses_event n g (event g x) ≡ some r
      → first_along refuses_event 1 (opening h.keys) es ≡ some r
  unfolding first_along or_else events_of
  along-refused x others q r d =
      a.refusals ∙ ap (λ (xs : List Entry). first_along refuses_event n g (events_of g xs)) q
      ∙ ap (λ (o : Option Refusal). or_else o (first_along refuses_event (suc n) (step g (event g x)) (events_of (step g (event g x)) others))) d

  -- at the end nothing was refused, and what was kept is the outcome
  pub along-end : rest ≡ [] → (first_along refuses_event 1 (opening h.keys) es ≡ none) × (final (opening h.keys) es ≡ g)
      × ((l : Level) → first_along (fails_event l) 1 (opening h.keys) es ≡ fs l)
  unfolding first_along final or_else events_of
  along-end q = (
    a.refusals ∙ ap (λ (xs : List Entry). first_along refuses_event n g (events_of g xs)) q,
    a.ends ∙ ap (λ (xs : List Entry). final g (events_of g xs)) q,
    λ l. a.verdicts l ∙ ap (λ (xs : List Entry). or_else (fs l) (first_along (fails_event l) n g (events_of g xs))) q ∙ or-none (fs l),
  )
    where
      or-none : (o : Option Failure) → or_else o none ≡ o
      or-none none = refl
      or-none (some x) = refl

  or_assoc : {A : Type 0} (o p q : Option A) → or_else (or_else o p) q ≡ or_else o (or_else p q)
  unfolding or_else
  or_assoc none p q = refl
  or_assoc (some x) p q = refl

  -- the run stands after record x, the first of those to come
  abbrev pub After : (x : Entry) (next : ℕ) → First bytes h n g.store.commits left x next rest → Type 0
  After x next first = Along bytes h es (left - 1) next (n + 1) (step g (event g x)) first.others (λ l. or_else (fs l) (fails_event l n g (event g x)))

  -- what changes at any record
  along-next : (x : Entry) (next : ℕ) (first : First bytes h n g.store.commits left x next rest) → refuses_event n g (event g x) ≡ none
      → Sound (step g (event g x)) → Ordered (step g (event g x)).store → (step g (event g x)).store.keys ≡ h.keys → ClientsFit (step g (event g x)).store
      → After x next first
  unfolding first_along final or_else events_of
  along-next x next first d s o k c =
      let after = step g (event g x) in
      rw (add-one n) (record {
        read = subst₂ (λ (i m : ℕ). entries_from bytes h (left - 1) next i m ≡ taken first.others) (add-one n) (sym (commits-after g x)) first.others-read;
        refusals =
            a.refusals ∙ ap (λ (xs : List Entry). first_along refuses_event n g (events_of g xs)) first.is-first
            ∙ ap (λ (o : Option Refusal). or_else o (first_along refuses_event (suc n) after (events_of after first.others))) d;
        ends = a.ends ∙ ap (λ (xs : List Entry). final g (events_of g xs)) first.is-first;
        verdicts = λ l.
            a.verdicts l ∙ ap (λ (xs : List Entry). or_else (fs l) (first_along (fails_event l) n g (events_of g xs))) first.is-first
            ∙ sym (or_assoc (fs l) (fails_event l n g (event g x)) (first_along (fails_event l) (suc n) after (events_of after first.others)));
        sound = s;
        ordered = o;
        keys-are = k;
        few = subst (λ (m : ℕ). m ≤ max_commits) (sym (commits-after g x)) first.few-commits;
        clients-fit = c;
      })

  -- after a shift
  pub along-shift : (d : Client) (l : Listed) (next : ℕ) (first : First bytes h n g.store.commits left (shifting d l) next rest)
      → FitsView g.store.keys (over (g.views d) l) → refuses_event n g (event g (shifting d l)) ≡ none → After (shifting d l) next first
  unfolding step event
  along-shift d l next first f q =
      let u = over (g.views d) l in
      along-next (shifting d l) next first q (sound-shift g d u a.sound ((legal-shift n g d u a.sound f).0 q).view) a.ordered a.keys-are a.clients-fit

  -- after a commit
  pub along-commit : (d : Client) (v : SessionNumber) (os : List Operation) (l : Listed) (next : ℕ) (first : First bytes h n g.store.commits left (committing d v os l) next rest)
      → WithinKeys g.store.keys (commit_meant g d v os l) → d < 256 → refuses_event n g (event g (committing d v os l)) ≡ none → After (committing d v os l) next first
  unfolding step update event
  along-commit d v os l next first f b q =
      let c = commit_meant g d v os l in
      let legal = (legal-commit g c a.sound f n).0 q in
      along-next (committing d v os l) next first q (sound-commit g c a.sound f legal.view)
      (ordered-commit g.store (view_before g c) c (legal-made a.sound f legal) a.ordered) a.keys-are (λ t p m. client t p m (ℕ_discrete t (next_number g.store)))
    where
      client : (t : ℕ) → 0 < t → t ≤ (store_after g (commit_meant g d v os l)).commits → Dec (t ≡ next_number g.store) → (store_after g (commit_meant g d v os l)).client_of t < 256
      client t p m (yes e) = subst (λ (y : ℕ). y < 256) (sym (ap (store_after g (commit_meant g d v os l)).client_of e ∙ at_same (next_number g.store) d g.store.client_of)) b
      client t p m (no n') = subst (λ (y : ℕ). y < 256) (sym (at_other (next_number g.store) d g.store.client_of t n')) (a.clients-fit t p (omega arith))
