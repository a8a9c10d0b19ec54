-- What the answers about a record mean, and what is given where they are asked. Assumes nothing.
use Rattle.std.specs.Prelude.{ℕ, ◌≤◌, ◌≡◌, List, [], ◌∷◌, Result, Ok, Err}
use Rattle.std.proofs.Math.Option.{Option, some, none}
use Rattle.search.specs.Choose.{map_some, first_some}
use Rattle.dependencies.specs.History as D
use Rattle.store.specs.Limits.{max_commits}
use Rattle.store.specs.Store.{View, Store, Configuration}
use Rattle.store.specs.Refusal.{Refusal, refuse_key, refuse_place, bad_mask, half_held}
use Rattle.store.specs.View.{FitsView}
use Rattle.store.specs.Sound.{Sound}
use Rattle.store.specs.History.{history, held}
use Rattle.growth.specs.Ordered.{Ordered}
use Rattle.state.specs.Keeps.{IsSet, KeepsVersions, KeepsKeys, KeepsViews}
use Rattle.state.specs.declared.Refusal.{Refusal as Refused}
use Rattle.state.specs.Answers.{refusal_of}

-- the refusal that the answer about a record stands for: none where it is taken
abbrev pub outcome_of : Result (Unit {0}) Refused → Option Refusal
outcome_of (Ok _) = none
outcome_of (Err r) = some (refusal_of r)

-- codes 10 and 11, which are about the masks u of a record: "A view holds version 0 of each key, only versions that exist, and all versions of a writer if it
-- holds one" (01, Store and views)
unfoldable pub mask_refusal : ℕ → Store → View → Option Refusal
mask_refusal i s u = first_some (map_some (refuse_key 10 i) (bad_mask s u) ∷ map_some (refuse_place 11 i) (half_held s u) ∷ [])

-- what is said of the masks u of record i: the refusal by code 10 or 11, or none, and the commits of which they hold a version
abbrev pub SightSays : ℕ → Store → View → Result ℕ Refused → Type 0
SightSays i s u (Err r) = mask_refusal i s u ≡ some (refusal_of r)
SightSays i s u (Ok m) = (mask_refusal i s u ≡ none) × IsSet m (D.Holds (history s) (held u))

-- a shift to masks u, on a configuration that the arrays keep
pub record ShiftGiven (g : Configuration) (u : View) (n : ℕ) (versions keys views seen : List ℕ) : Type 0 where
  pub sound : Sound g
  pub ordered : Ordered g.store
  pub few : g.store.commits ≤ max_commits
  pub keys-are : g.store.keys ≡ n
  pub in-versions : KeepsVersions g.store versions
  pub in-keys : KeepsKeys g.store keys
  pub in-views : KeepsViews g views seen
  pub fits : FitsView n u
