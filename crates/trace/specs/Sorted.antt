-- The operations of a commit as the code has them once they are sorted: the set of their ranks, and at each rank a value. "Operations rise
-- strictly by key and then kind" (01, The trace file): a read of key k has rank 2 * k and a write of it 2 * k + 1. Assumes nothing.
use Rattle.std.specs.Prelude.{ℕ, ◌+◌, ◌*◌, ◌^◌, ◌<◌, ◌≡◌, Bool, true, false, ◌||◌, List, get_or, Ok, Err, Some, None}
use Rattle.std.specs.Prelude.{Option as RustOption, Result as RustResult}
use Rattle.search.specs.Choose.{when}
use Rattle.sets.specs.Set.{Set, has}
use Rattle.store.specs.Store.{Key, Access}
use Rattle.store.specs.Update.{value_of}
use Rattle.trace.specs.Listed.{touched}
use Rattle.trace.specs.Format.{operations_at, operations_fit}
use Rattle.trace.specs.Encode.{access_number}
use Rattle.trace.specs.declared.records.Listing.{Listing}
use Rattle.trace.specs.declared.records.Listing.TheVariants.{Every, Only, Touched}
use Rattle.trace.specs.declared.records.Record.{Record}
use Rattle.trace.specs.declared.records.Record.TheVariants.{Shift, Commit}
use Rattle.trace.specs.declared.records.Why.{Why}
use Rattle.trace.specs.declared.records.Sorted.{Sorted}
use Rattle.trace.specs.Meaning.{Reading}

-- the m operations from a place on are those with these ranks, and with the values at these
abbrev pub SortedAs : List ℕ → ℕ → ℕ → Set → List ℕ → Type 0
SortedAs s start m ranks values = (a : Access) (k : Key)
    → value_of a (operations_at s start m) k ≡ when (has ranks (2 * k + access_number a)) (get_or values (2 * k + access_number a) 0)

-- every value is a u32
abbrev pub ValuesFit : List ℕ → Type 0
ValuesFit values = (r : ℕ) → get_or values r 0 < 2 ^ 32

-- what an answer says of the m operations from a place on: they fit, and are sorted; or they do not
unfoldable pub SortSays : List ℕ → ℕ → ℕ → ℕ → List ℕ → RustOption ℕ → Type 0
SortSays s start keys m values (Some ranks) = (operations_fit s start keys 0 m ≡ true) × SortedAs s start m ranks values
SortSays s start keys m values None = operations_fit s start keys 0 m ≡ false

-- a key has an operation, by the ranks
abbrev pub touched_by : Set → Key → Bool
touched_by ranks k = has ranks (2 * k) || has ranks (2 * k + 1)

-- where the masks that are listed are of the keys with an operation, it is the operations with these ranks
unfoldable pub ListsBy : List ℕ → Set → Listing → Type 0
ListsBy s ranks (Every masks) = Unit {0}
ListsBy s ranks (Only listed masks) = Unit {0}
ListsBy s ranks (Touched operations m masks) = (k : Key) → touched (operations_at s operations m) k ≡ touched_by ranks k

-- a commit is sorted
unfoldable pub RecordSorted : List ℕ → Set → List ℕ → Record → Type 0
RecordSorted s ranks values (Shift client l) = Unit {0}
RecordSorted s ranks values (Commit client count session operations l) = SortedAs s operations count ranks values × ListsBy s ranks l

-- what was read of a record that is sorted
abbrev pub reading_in : RustResult Sorted Why → Reading
reading_in (Ok r) = Ok r.whole
reading_in (Err y) = Err y

-- a record that was read whole is sorted
abbrev pub ReadingSorted : List ℕ → List ℕ → RustResult Sorted Why → Type 0
ReadingSorted s values (Ok r) = RecordSorted s r.ranks values r.whole.record
ReadingSorted s values (Err y) = Unit {0}

-- what was read is sorted into an array of values, of which each is a u32 if each was before
abbrev pub SortedInto : List ℕ → List ℕ → List ℕ → RustResult Sorted Why → Type 0
SortedInto s before after r = ReadingSorted s after r × (ValuesFit before → ValuesFit after)
