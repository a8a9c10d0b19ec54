-- `operations::note_reads` meets its contract. The keys passed are not read wrongly and have their reads noted, the others are as before, and the sets are those of the keys
-- passed. Assumes nothing.
use Rattle.std.proofs.Common.{ℕ, ◌<◌, ◌≤◌, T}
use Rattle.store.specs.Store.{Key, View, Store, Commit}
use Rattle.store.specs.Refusal.{wrong_at}
use Rattle.growth.specs.Ordered.{Ordered}
use Rattle.state.specs.Room.{VersionsRoom}
use Rattle.state.specs.Keeps.{IsSet, KeepsKeys}
use Rattle.state.specs.Accesses.{Left}
use Rattle.state.proofs.Below.{From}
use Rattle.operations.specs.Given.{Given}
use Rattle.operations.specs.PerKey.{ReadAt, LaterAt}
use Rattle.operations.proofs.Noted.{ReadsPassed}
use Rattle.operations.proofs.note_reads.Given as goal

abbrev pub invariant-loop-twice : goal.invariant-loop-twice
invariant-loop-twice l =
    (k : ℕ) × (k ≤ l.n) × Left l.ranks 0 l.n k l.twice-iterator.0 × VersionsRoom l.versions
    × ((s : Store) (u : View) (c : Commit) → Given s u c l.initial.versions l.views l.base l.values l.ranks l.n
    → ((q : Key) → q < k → ¬ T (wrong_at s u c q)) × ReadsPassed s u c l.me.0 l.n k l.versions
    × (KeepsKeys s l.keys → Ordered s → IsSet l.from (From (ReadAt s u c) k) × IsSet l.over (From (LaterAt s u c) k)))
