-- Clause 2 as 01 had it before 02 amended it (E4): "versions written by this commit in u'"; and the verdict of a level by that rule, so that what the
-- change moved can be said, and is proved (crates/answer/proofs/EarlierRule.antt). No answer is made of these. Assumes nothing.
use Rattle.std.specs.Prelude.{ℕ, ◌≡◌, ◌≢◌, List, [], ◌∷◌, eqb}
use Rattle.std.proofs.Math.Option.{Option, none}
use Rattle.search.specs.Choose.{choose, map_some, or_else}
use Rattle.store.specs.Store.{View, Store, Configuration, opening, next_number, Commit, Event, shift, commit}
use Rattle.store.specs.Update.{update, view_before, first_along}
use Rattle.store.specs.Missing.{Place, missing}
use Rattle.store.specs.Links.{wrote}
use Rattle.trace.specs.Result.{taken}
use Rattle.trace.specs.Format.{Trace}
use Rattle.levels.specs.Clause.{Clause, clause_number, missing_by}
use Rattle.levels.specs.Level.{Level, RYW, clauses_of, Failure, failure}
use Rattle.answer.specs.Answer.{accept, verdict}

-- the first version missing by a clause: all clauses but 2 are as they are
abbrev pub earlier_missing : Store → View → Commit → Clause → Option Place
earlier_missing s u c x =
    choose (eqb (clause_number x) 2) (missing (update s u c) (wrote (update s u c) (next_number s)) c.view_after) (missing_by s u c x)

abbrev pub earlier_fails : ℕ → Store → View → Commit → List Clause → Option Failure
earlier_fails n s u c [] = none
earlier_fails n s u c (x ∷ xs) = or_else (map_some (failure (next_number s) n x) (earlier_missing s u c x)) (earlier_fails n s u c xs)

abbrev pub earlier_event : Level → ℕ → Configuration → Event → Option Failure
earlier_event l n g (shift d u) = none
earlier_event l n g (commit c) = earlier_fails n g.store (view_before g c) c (clauses_of l)

-- the verdict of a level on a trace by the earlier rule
abbrev pub earlier_verdict : Level → Trace → Option Failure
earlier_verdict l t = first_along (earlier_event l) 1 (opening t.keys) t.events

-- on every taken trace the levels but RYW have the same verdict by both rules
abbrev pub OnlyRYWChanges : List ℕ → Type 0
OnlyRYWChanges bytes = (t : Trace) → accept bytes ≡ taken t → (l : Level) → l ≢ RYW → earlier_verdict l t ≡ verdict l t
