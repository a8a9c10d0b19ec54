-- What the answer about new masks says of them: code 11, and the commits of which they hold a version. Assumes nothing.
use Rattle.std.specs.Prelude.{◌≡◌, ℕ, List, Result, Ok, Err}
use Rattle.std.proofs.Math.Option.{some, none}
use Rattle.sets.specs.Set.{Set}
use Rattle.dependencies.specs.History as D
use Rattle.store.specs.Store.{View, Store}
use Rattle.store.specs.Refusal.{half_held}
use Rattle.store.specs.View.{IsView, FitsView}
use Rattle.store.specs.History.{history, held}
use Rattle.growth.specs.Ordered.{Ordered}
use Rattle.state.specs.Keeps.{IsSet, KeepsMasks}
use Rattle.state.specs.declared.Place.{Place}
use Rattle.views.specs.Rules.{StoreAndView}

-- the commits of which masks u hold a version; or the first version that they lack by a commit of which they hold another
abbrev pub ViewedAs : Store → View → Result ℕ Place → Type 0
ViewedAs s u (Ok m) = (half_held s u ≡ none) × IsSet m (D.Holds (history s) (held u))
ViewedAs s u (Err p) = half_held s u ≡ some (record { key = p.key.0; version = p.version.0 })

-- masks u of a record over the view `old` of the store, which the arrays keep at `base`, with the commits that it holds in `seen`
pub record NewMasks (s : Store) (old u : View) (n : ℕ) (versions keys masks : List ℕ) (base : ℕ) (seen : Set) (fresh : List ℕ) : Type 0 where
  pub arrays : StoreAndView s old n versions keys masks base
  pub ordered : Ordered s
  pub view : IsView s old
  pub seen-is : IsSet seen (D.Holds (history s) (held old))
  pub in-fresh : KeepsMasks n u fresh
  pub fits : FitsView n u
