-- "A serial run by hand" (02, E11): "run the commits one at a time on a table of one value per key, all 0 at first, a commit's reads before its writes".
-- All of it is read off the commits of a trace; no store, version or view is consulted. Assumes nothing.
use Rattle.std.specs.Prelude.{◌-◌, Bool, true, ◌&&◌, ◌||◌, List, [], ◌∷◌, eqb}
use Rattle.std.proofs.Math.Option.{Option, some, none}
use Rattle.search.specs.Choose.{choose, need}
use Rattle.store.specs.Store.{Key, Value, Store, count, version, write, Operation, Event, shift, commit}
use Rattle.store.specs.Update.{same_access, at_number}

-- "a table of one value per key"
abbrev pub Table : Type 0
Table = Key → Value

-- "all 0 at first"
abbrev pub all_zero : Table
all_zero k = 0

-- "Each read finds its value there": at its key; a write asks nothing
abbrev pub finds : Table → Operation → Bool
finds m o = same_access write o.access || eqb (m o.key) o.value

unfoldable pub reads_find : Table → List Operation → Bool
reads_find m [] = true
reads_find m (o ∷ os) = finds m o && reads_find m os

-- a write puts its value at its key; a read changes nothing
abbrev pub puts : Table → Operation → Table
puts m o = choose (same_access write o.access) (at_number o.key o.value m) m

unfoldable pub writes_put : Table → List Operation → Table
writes_put m [] = m
writes_put m (o ∷ os) = writes_put (puts m o) os

-- "run the commits one at a time .. a commit's reads before its writes": all reads look at the table that the commit before left. The table at the end, or
-- none where a read does not find its value. Shifts are no commits.
unfoldable pub serial_run : Table → List Event → Option Table
serial_run m [] = some m
serial_run m (shift d u ∷ es) = serial_run m es
serial_run m (commit c ∷ es) = need (reads_find m c.operations) none (serial_run (writes_put m c.operations) es)

-- "each key's newest version": the value of the last in its list. A key that the store does not have has no version, and stands at 0 as at first.
abbrev pub newest_values : Store → Table
newest_values s k = (version s k (count s k - 1)).value
