-- The codes of a commit, as the judge takes them in turn. Assumes nothing.
use Rattle.std.proofs.Common.{ℕ, ◌≡◌, refl, ap, T, Result, Ok, Err, MatchResult, IsErrAnd}
use Rattle.std.proofs.Math.Option.{Option, some, none}
use Rattle.search.specs.Choose.{map_some, when, or_else}
use Rattle.search.proofs.Tests.{T_true, T_false, some-none}
use Rattle.store.specs.Store.{Configuration, Commit, commit}
use Rattle.store.specs.Update.{view_before}
use Rattle.store.specs.Refusal.{Refusal, refuse, refuse_read, old_number, wrong_read, refuses_event}
use Rattle.state.specs.declared.WrongRead.{WrongRead}
use Rattle.state.specs.declared.Refusal.{Refusal as Answer}
use Rattle.state.specs.Answers.{visible_of, sighting_of, refusal_of}
use Rattle.shifts.specs.Outcomes.{outcome_of}
use Rattle.commits.specs.Codes.{late_refusal}
use Rattle.commits.proofs.Cases.{codes-in-turn}

-- ---- a wrong read, where its refusal is answered in its place

pub read-answered : (i : ℕ) (m : Result (Unit {0}) WrongRead) (r : Result (Unit {0}) Answer) {made : WrongRead → Answer → Type 0}
    → MatchResult m (λ x. r ≡ Ok x) (λ w. IsErrAnd r (made w))
    → ((w : WrongRead) (a : Answer) → made w a → refusal_of a ≡ refuse_read i (record { key = w.key.0; sees = visible_of w.sees }))
    → outcome_of r ≡ map_some (refuse_read i) (sighting_of m)
unfolding map_some
read-answered i (Ok x) r e is = ap outcome_of e
read-answered i (Err w) (Ok x) e is = absurd e
read-answered i (Err w) (Err a) e is = ap some (is w a e)

pub none-wrong : (m : Result (Unit {0}) WrongRead) (r : Result (Unit {0}) Answer) (made : WrongRead → Answer → Type 0)
    → MatchResult m (λ x. r ≡ Ok x) (λ w. IsErrAnd r (made w)) → outcome_of r ≡ none → m ≡ Ok tt
none-wrong (Ok x) r made e q = refl
none-wrong (Err w) (Ok x) made e q = absurd e
none-wrong (Err w) (Err a) made e q = some-none q

-- ---- the codes

module _ (i : ℕ) (g : Configuration) (c : Commit) where
  -- a commit whose session number is too small
  pub refused-old : {a : Refusal} → T (old_number g.store c) → a ≡ refuse 9 i → some a ≡ refuses_event i g (commit c)
  unfolding or_else when
  refused-old t q = rw (q, codes-in-turn i g c, T_true (old_number g.store c) t)

  module _ (new : ¬ T (old_number g.store c)) where
    -- one whose number is not, with a wrong read
    pub refused-read : {a : Refusal} → some a ≡ map_some (refuse_read i) (wrong_read g.store (view_before g c) c) → some a ≡ refuses_event i g (commit c)
    unfolding or_else when
    refused-read e = rw (codes-in-turn i g c, T_false (old_number g.store c) new, ← e)

    -- one with neither
    pub answered-late : none ≡ wrong_read g.store (view_before g c) c → (o : Option Refusal) → o ≡ late_refusal i g c → o ≡ refuses_event i g (commit c)
    unfolding or_else when map_some
    answered-late e o l = rw (l, codes-in-turn i g c, T_false (old_number g.store c) new, ← e)
