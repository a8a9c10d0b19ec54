-- A view as the set of commits of which it holds a version. Assumes nothing.
use Rattle.std.specs.Prelude.{ℕ, ◌<◌, ◌≡◌, ◌⊎◌, ◌↔◌, T}
use Rattle.sets.specs.Set.{has}
use Rattle.dependencies.specs.History.{Holds}
use Rattle.store.specs.Store.{CommitNumber, View, Store, count, Commit}
use Rattle.store.specs.Update.{writes}
use Rattle.store.specs.History.{history, held}
use Rattle.growth.specs.Made.{Writer}

-- t wrote something, and the view holds none of it
abbrev pub Lacking : Store → View → CommitNumber → Type 0
Lacking s v t = Writer (history s) t × (¬ Holds (history s) (held v) t)

-- the view holds every version of the store
abbrev pub Full : Store → View → Type 0
Full s v = (k i : ℕ) → i < count s k → T (has (v k) i)

-- the view v' is v and the versions that the commit wrote
abbrev pub WithOwn : Store → Commit → View → View → Type 0
WithOwn s c v v' = (k i : ℕ) → T (has (v' k) i) ↔ (T (has (v k) i) ⊎ (T (writes c k) × (i ≡ count s k)))
