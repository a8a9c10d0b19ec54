-- The codes of a commit that are asked after it is made, and what is given there. Assumes nothing.
use Rattle.std.specs.Prelude.{ℕ, ◌≤◌, ◌≡◌, Bool, List, T, Result, Ok, Err}
use Rattle.std.proofs.Math.Option.{Option, some, none}
use Rattle.search.specs.Choose.{map_some, or_else}
use Rattle.sets.specs.Set.{Set}
use Rattle.store.specs.Limits.{max_commits}
use Rattle.dependencies.specs.History as D
use Rattle.store.specs.Store.{Configuration, next_number, Commit, commit}
use Rattle.store.specs.Update.{step, view_before, store_after}
use Rattle.store.specs.History.{history, held}
use Rattle.store.specs.Refusal.{Refusal, refuse_key, stray}
use Rattle.store.specs.Sound.{Sound}
use Rattle.store.specs.Image.{ClientsFit}
use Rattle.growth.specs.Made.{Made}
use Rattle.growth.specs.Ordered.{Ordered}
use Rattle.state.specs.Keeps.{IsSet, KeepsVersions, KeepsKeys, KeepsViews, KeepsCommits, KeepsMasks, KeepsOperations}
use Rattle.state.specs.declared.Refusal.{Refusal as Refused}
use Rattle.state.specs.Answers.{refusal_of}
use Rattle.levels.specs.Level.{Level, Failure, fails_event}
use Rattle.views.specs.Own.{AddsOwn}
use Rattle.verdicts.specs.Wants.{Wants}
use Rattle.verdicts.specs.Verdicts.{Live, KeepsVerdicts}
use Rattle.trying.specs.declared.Tried.{Tried}
use Rattle.shifts.specs.Outcomes.{outcome_of, mask_refusal}

-- codes 10, 11 and 14
unfoldable pub late_refusal : ℕ → Configuration → Commit → Option Refusal
late_refusal i g c = or_else (mask_refusal i (store_after g c) c.view_after) (map_some (refuse_key 14 i) (stray g.store (view_before g c) c))

-- what is given: the versions and keys are those of the store after it, the views are those before
pub record LateGiven (g : Configuration) (c : Commit) (values versions keys fresh views seen : List ℕ) (client : ℕ) (ranks : Set) (n me : ℕ) : Type 0 where
  pub sound : Sound g
  pub made : Made g.store (view_before g c) c
  pub ordered : Ordered g.store
  pub keys-are : g.store.keys ≡ n
  pub room-left : next_number g.store ≤ max_commits
  pub client-is : c.client ≡ client
  pub number_is : next_number g.store ≡ me
  pub operations : KeepsOperations c ranks values
  pub in-versions : KeepsVersions (store_after g c) versions
  pub in-keys : KeepsKeys (store_after g c) keys
  pub in-fresh : KeepsMasks n c.view_after fresh
  pub in-views : KeepsViews g views seen

-- what is said of the view after: the refusal that is due, or none, and the commits of which it holds a version
abbrev pub AfterSays : ℕ → Configuration → Commit → Result ℕ Refused → Type 0
AfterSays i g c (Err r) = some (refusal_of r) ≡ late_refusal i g c
AfterSays i g c (Ok m) = (none ≡ late_refusal i g c) × IsSet m (D.Holds (history (store_after g c)) (held c.view_after))

-- what the levels are given besides
pub record JudgeGiven (g : Configuration) (c : Commit) (tried : Tried) (plain : Bool) (commits verdicts : List ℕ) : Type 0 where
  pub clients-fit : ClientsFit g.store
  pub holds : IsSet tried.seen (D.Holds (history g.store) (held (view_before g c)))
  pub wants : Wants g.store (view_before g c) c tried.wanted
  pub asked : Live verdicts tried.wanted.live
  pub adds-own : T plain → AddsOwn g.store (view_before g c) c
  pub in-commits : KeepsCommits (store_after g c) commits

-- and what is answered: the refusal that is due, and where none is, the views after the commit and the verdicts on it are kept
abbrev pub LateSays : ℕ → Configuration → Commit → (Level → Option Failure) → List ℕ → List ℕ → List ℕ → Result (Unit {0}) Refused → Type 0
LateSays i g c fs views seen verdicts r =
    (outcome_of r ≡ late_refusal i g c)
    × (r ≡ Ok tt → KeepsViews (step g (commit c)) views seen × KeepsVerdicts (λ l. or_else (fs l) (fails_event l i g (commit c))) verdicts)
