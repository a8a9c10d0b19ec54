-- The ranks of a commit say which keys it reads and which it writes. Assumes nothing.
use Prim.Native.Nat.{ℕ, ◌+◌, ◌*◌}
use mathlib.Core.Path.{◌≡◌, ap, ◌∙◌}
use mathlib.Core.List.{List}
use Rattle.search.specs.Choose.{is_some}
use Rattle.search.proofs.Choose.{is_some-when}
use Rattle.sets.specs.Set.{Set, has}
use Rattle.store.specs.Store.{Key, Commit}
use Rattle.store.specs.Update.{reads, writes}
use Rattle.state.specs.Keeps.{KeepsOperations}

module _ {c : Commit} {ranks : Set} {values : List ℕ} (o : KeepsOperations c ranks values) (k : Key) where
  pub reads-rank : reads c k ≡ has ranks (2 * k)
  reads-rank = ap is_some (o.reads k) ∙ is_some-when (has ranks (2 * k)) _

  pub writes-rank : writes c k ≡ has ranks (2 * k + 1)
  writes-rank = ap is_some (o.writes k) ∙ is_some-when (has ranks (2 * k + 1)) _
