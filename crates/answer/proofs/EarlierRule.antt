-- What E4 of 02 changes: on every taken trace each level but RYW has the verdict that it had by the earlier clause 2, with record, clause, key and version,
-- since all others that ask clause 2 ask clause 1 first, and where that has not failed views only grow. RYW accepted trace L. Assumes nothing.
use Prim.Native.Nat.{ℕ, suc, ◌<◌}
use mathlib.Core.Path.{◌≡◌, refl, ap, ◌∙◌, subst}
use mathlib.Core.Logic.{◌⊎◌, inl, inr, ◌≢◌}
use mathlib.Core.Option.{Option, some, none}
use mathlib.Core.List.{List, ◌∷◌}
use lib.Count.{count_leading_zeros}
use lib.Dec.{T}
use Rattle.search.specs.Choose.{choose, is_some, map_some, when, or_else}
use Rattle.search.specs.Search.{any, least}
use Rattle.search.proofs.Tests.{or_left, or_cases}
use Rattle.sets.specs.Set.{highest}
use Rattle.endian.specs.Endian.{Bytes}
use Rattle.store.specs.Store.{Client, View, Store, Configuration, opening_store, opening, count, version, next_number, Commit, Event, shift, commit}
use Rattle.store.specs.Update.{value_of, note_read, append, update, view_before, store_after, step, first_along}
use Rattle.store.specs.Missing.{Place, at_key, missing}
use Rattle.store.specs.Links.{wrote, stored, SO}
use Rattle.store.specs.History.{held}
use Rattle.store.specs.Sound.{Sound, WithinKeys}
use Rattle.store.specs.Legal.{LegalShift, LegalCommit}
use Rattle.store.proofs.Sound.{sound-opening}
use Rattle.store.proofs.Misses.{missing-agree}
use Rattle.store.proofs.Links.{so-means}
use Rattle.store.proofs.Run.{LegalRun, done, shifts, commits, sound-shifts, sound-commits}
use Rattle.trace.specs.Format.{Trace}
use Rattle.trace.proofs.Decoded.{decoded-well-formed}
use Rattle.levels.specs.Clause.{Clause, monotonic_reads, read_your_writes, session_writes, wants, missing_by}
use Rattle.levels.specs.Level.{Level, MR, MW, RYW, WFR, CC, UA, PSI, CP, SI, SER, clauses_of, Failure, failure, fails_clauses, fails_event, first_failure}
use Rattle.levels.proofs.Clauses.{clause-is}
use Rattle.levels.proofs.Levels.{AllSay, Passes}
use Rattle.growth.proofs.Made.{sound-after}
use Rattle.answer.specs.Answer.{verdict}
use Rattle.answer.specs.Examples.{fails, trace_l}
use Rattle.answer.specs.EarlierRule.{earlier_missing, earlier_fails, earlier_event, earlier_verdict, OnlyRYWChanges}
use Rattle.answer.proofs.Taken.{Taken}
use Rattle.answer.proofs.Orders.{failure-at, no-failure-is}
use Rattle.answer.proofs.Demand3.{accepted-trace, taken-run}
use Rattle.answer.proofs.Graph.{made}
use Rattle.answer.proofs.OwnWrites.{OwnHeld, own-opening, own-shift, session-held, own-commit}

-- what holds of a legal commit on a sound configuration of which I holds
abbrev Whenever : (Configuration → Type 0) → (Configuration → Commit → Type 0) → Type 0
Whenever I P = (g : Configuration) (c : Commit) → Sound g → WithinKeys g.store.keys c → LegalCommit g c → I g → P g c

-- both rules have the same failure of a commit by a list of clauses
abbrev SameFailure : List Clause → Configuration → Commit → Type 0
SameFailure xs g c = (n : ℕ) → earlier_fails n g.store (view_before g c) c xs ≡ fails_clauses n g.store (view_before g c) c xs

-- both have the same first failure of a run, where they have the same of each commit as long as I holds, which a commit that passes keeps
module _ (l : Level) (I : Configuration → Type 0)
    (shift-keeps : (g : Configuration) (d : Client) (u : View) → LegalShift g d u → I g → I (step g (shift d u)))
    (commit-keeps : Whenever I (λ g c. Passes l g c → I (step g (commit c)))) (same : Whenever I (SameFailure (clauses_of l))) where
  same-along : (n : ℕ) {g : Configuration} {es : List Event} → Sound g → LegalRun g es → I g
      → first_along (earlier_event l) n g es ≡ first_along (fails_event l) n g es
  unfolding first_along fails_event or_else
  same-along n h done i = refl
  same-along n h (shifts f q r) i = same-along (suc n) (sound-shifts h q) r (shift-keeps _ _ _ q i)
  same-along n {g} h (commits {c = c} {es = es} f q r) i =
      ap (λ (o : Option Failure). or_else o earlier) (same g c h f q i n)
      ∙ go (failure-at l n g c) (λ e. same-along (suc n) (sound-commits h f q) r (commit-keeps g c h f q i ((no-failure-is l n g c h f).0 e))) refl
    where
      earlier : Option Failure
      earlier = first_along (earlier_event l) (suc n) (step g (commit c)) es

      now : Option Failure
      now = first_along (fails_event l) (suc n) (step g (commit c)) es

      go : (o : Option Failure) → (failure-at l n g c ≡ none → earlier ≡ now) → failure-at l n g c ≡ o → or_else o earlier ≡ or_else o now
      go (some x) rest e = refl
      go none rest e = rest e

-- ---- a level that asks clause 1, then clause 2

module _ (g : Configuration) (c : Commit) (h : Sound g) (f : WithinKeys g.store.keys c) (l : LegalCommit g c) (own : OwnHeld g) where
  abbrev s : Store
  s = g.store

  abbrev u : View
  u = view_before g c

  abbrev s' : Store
  s' = store_after g c

  -- where the view after holds all of the view before, it lacks nothing that was written before the commit in SO: the rules miss the same version
  same-missing : missing_by s u c monotonic_reads ≡ none → earlier_missing s u c read_your_writes ≡ missing_by s u c read_your_writes
  unfolding missing_by wants choose session_writes
  same-missing e =
      missing-agree s' (wrote s' (next_number s)) (session_writes s' (next_number s)) c.view_after (λ k i n lacks.
      (or_left (wrote s' (next_number s) k i) _, λ t. own-version k i n lacks (or_cases (wrote s' (next_number s) k i) _ t)))
    where
      grows : (k i : ℕ) → held u k i → held c.view_after k i
      grows = (clause-is s h.store u (h.views c.client) c (sound-after s u c (made g c h f l)) monotonic_reads).0 e

      own-version : (k i : ℕ) → i < count s' k → ¬ held c.view_after k i → T (wrote s' (next_number s) k i) ⊎ T (SO s' (version s' k i).writer (next_number s))
          → T (wrote s' (next_number s) k i)
      own-version k i n lacks (inl t) = t
      own-version k i n lacks (inr t) =
          absurd (lacks (grows k i (session-held g c h f l own _ ((so-means s' (sound-after s u c (made g c h f l)) _ _).0 t) k i (n, refl))))

  same-failure : (xs : List Clause) → SameFailure xs g c → SameFailure (monotonic_reads ∷ read_your_writes ∷ xs) g c
  unfolding fails_clauses map_some or_else choose
  same-failure xs rest n = go (missing_by s u c monotonic_reads) refl
    where
      go : (o : Option Place) → missing_by s u c monotonic_reads ≡ o
          → or_else (map_some (failure (next_number s) n monotonic_reads) o) (earlier_fails n s u c (read_your_writes ∷ xs))
          ≡ or_else (map_some (failure (next_number s) n monotonic_reads) o) (fails_clauses n s u c (read_your_writes ∷ xs))
      go (some p) e = refl
      go none e = rw (same-missing e, rest n) refl

-- ---- a taken trace

module _ (t : Trace) (h : Taken t) where
  -- a level without clause 2
  without : (l : Level) → ((g : Configuration) (c : Commit) → SameFailure (clauses_of l) g c) → earlier_verdict l t ≡ verdict l t
  unfolding first_failure
  without l same = same-along l (λ g. Unit {0}) (λ g d u _ _. tt) (λ g c _ _ _ _ _. tt) (λ g c _ _ _ _. same g c) 1 (sound-opening t.keys) h.legal tt

  -- a level that asks clauses 1 and 2, and then others
  with-both : (l : Level) (xs : List Clause) → clauses_of l ≡ monotonic_reads ∷ read_your_writes ∷ xs
      → ((g : Configuration) (c : Commit) → SameFailure xs g c) → earlier_verdict l t ≡ verdict l t
  unfolding first_failure
  with-both l xs e rest =
      same-along l OwnHeld own-shift (λ g c s f q own p. own-commit g c s f q (subst (AllSay g.store (view_before g c) c) e p).1.0 own)
      (λ g c s f q own. rw e (same-failure g c s f q own xs (rest g c))) 1 (sound-opening t.keys) h.legal (own-opening t.keys)

  each_level : (l : Level) → l ≢ RYW → earlier_verdict l t ≡ verdict l t
  unfolding fails_clauses choose
  each_level MR n = without MR (λ g c n. refl)
  each_level MW n = without MW (λ g c n. refl)
  each_level RYW n = absurd (n refl)
  each_level WFR n = without WFR (λ g c n. refl)
  each_level CC n = with-both CC _ refl (λ g c n. refl)
  each_level UA n = without UA (λ g c n. refl)
  each_level PSI n = with-both PSI _ refl (λ g c n. refl)
  each_level CP n = with-both CP _ refl (λ g c n. refl)
  each_level SI n = with-both SI _ refl (λ g c n. refl)
  each_level SER n = without SER (λ g c n. refl)

pub only-ryw-changes : (bytes : List ℕ) → Bytes bytes → OnlyRYWChanges bytes
only-ryw-changes bytes b t e = let read = accepted-trace bytes t e in each_level t (taken-run t (decoded-well-formed bytes b t read.0) read.1)

-- "The old rule accepted it."
pub ryw-changes : (earlier_verdict RYW trace_l.trace ≡ none) × (verdict RYW trace_l.trace ≡ fails 2 2 read_your_writes)
unfolding count_leading_zeros choose is_some map_some when or_else any least highest opening_store opening value_of note_read append update step first_along at_key missing stored SO session_writes wants missing_by fails_clauses fails_event first_failure
ryw-changes = (refl, refl)
