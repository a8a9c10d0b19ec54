-- `operations::append` meets its contract. The keys passed have their new versions, the others are as before, and the set is that of the keys passed. Assumes nothing.
use Rattle.std.proofs.Common.{ℕ, ◌≤◌}
use Rattle.store.specs.Store.{Store, Commit}
use Rattle.state.specs.Room.{VersionsRoom, KeysRoom}
use Rattle.state.specs.Keeps.{IsSet}
use Rattle.state.specs.Accesses.{Left}
use Rattle.state.proofs.Below.{From}
use Rattle.operations.specs.Given.{Appending}
use Rattle.operations.specs.PerKey.{WrittenAt}
use Rattle.operations.proofs.Appended.{WritesPassed}
use Rattle.operations.proofs.append.Given as goal

abbrev pub invariant-loop-twice : goal.invariant-loop-twice
invariant-loop-twice l =
    (k : ℕ) × (k ≤ l.n) × Left l.ranks 1 l.n k l.twice-iterator.0 × VersionsRoom l.versions × KeysRoom l.keys
    × ((s : Store) (c : Commit) → Appending s c l.initial.versions l.initial.keys l.values l.ranks l.n → WritesPassed s c l.me.0 l.n k l.versions l.keys × IsSet l.earlier (From (WrittenAt s c) k))
