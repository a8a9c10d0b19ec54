-- `views::prefix::split` meets its contract. The sets so far are those of the keys passed. Assumes nothing.
use Rattle.std.proofs.Common.{◌≡◌, ℕ, List}
use mathlib.Core.Option.{none}
use Rattle.store.specs.Store.{View, Store}
use Rattle.store.specs.Refusal.{bad_mask}
use Rattle.state.specs.Keeps.{IsSet}
use Rattle.state.proofs.Below.{From}
use Rattle.views.specs.Viewed.{NewMasks}
use Rattle.views.specs.Prefix.{Prefixes}
use Rattle.views.proofs.Downward.{HeldAt, LackedAt}
use Rattle.views.proofs.prefix.split.Given as goal

abbrev pub invariant-loop-k : goal.invariant-loop-k
invariant-loop-k l =
    (s : Store) (old u : View) (masks : List ℕ) (base seen : ℕ) (m : NewMasks s old u l.n l.versions l.keys masks base seen l.fresh) (good : bad_mask s u ≡ none) → Prefixes l.fresh l.n
    → IsSet l.held (From (HeldAt s old u l.n l.versions l.keys masks base seen l.fresh m good) l.k)
    × IsSet l.lacking (From (LackedAt s old u l.n l.versions l.keys masks base seen l.fresh m good) l.k)
