-- "any order of its commits, each made from a full view, gives those versions, writers and readers, with sessions in number order; commit numbers
-- may be renamed by the order" (02, E9). It is said by making the commits, one after another; nothing here knows of links. Assumes nothing.
use Rattle.std.specs.Prelude.{ℕ, zero, suc, ◌<◌, ◌≤◌, ◌≡◌, List, [], ◌∷◌, ◌++◌, map, length, get_or}
use Rattle.std.proofs.Math.Option.{Option, some, none}
use Rattle.search.specs.Choose.{choose, map_some}
use Rattle.search.specs.Search.{least}
use Rattle.sets.specs.Set.{Set, has, insert}
use Rattle.store.specs.Store.{Key, CommitNumber, Value, Version, Store, opening_store, opening, count, version, Access, read, write, Operation, Commit, Event, commit}
use Rattle.store.specs.Update.{update}
use Rattle.store.specs.Missing.{Rule}
use Rattle.store.specs.Links.{wrote, has_read}
use Rattle.answer.specs.Replay.{full_view, replay_events}

-- ---- a commit of the image, made anew

-- the versions that commit t read, or wrote
abbrev pub versions_by : Store → CommitNumber → Access → Rule
versions_by s t read = has_read s t
versions_by s t write = wrote s t

-- the value that it read, or wrote, at a key
unfoldable pub value_by : Store → CommitNumber → Access → Key → Option Value
value_by s t a k = map_some (λ i. (version s k i).value) (least (count s k) (versions_by s t a k))

-- an operation with that value, where there is one
unfoldable pub operation_of : Access → Key → Option Value → List Operation
operation_of a k none = []
operation_of a k (some x) = record { access = a; key = k; value = x } ∷ []

-- its operations at the keys below n: "Operations rise strictly by key and then kind, a read before a write" (01, The trace file)
unfoldable pub operations_below : Store → CommitNumber → ℕ → List Operation
operations_below s t zero = []
operations_below s t (suc k) = operations_below s t k ++ (operation_of read k (value_by s t read k) ++ operation_of write k (value_by s t write k))

-- commit t as a record of a trace; what its client saw afterwards is no part of an image
unfoldable pub commit_of : Store → CommitNumber → Commit
commit_of s t = record {
  client = s.client_of t;
  session = s.session_of t;
  operations = operations_below s t s.keys;
  view_after = λ k. 0;
}

-- ---- the commits made in an order

-- the number in the image of commit j of an order; 0 is the opening transaction in every order
abbrev pub name_in : List CommitNumber → CommitNumber → CommitNumber
name_in order j = get_or (0 ∷ order) j 0

-- the store after the first n commits, "each made from a full view" of the store that those before it left; ν j is the number in the image s of
-- the j-th that is made
unfoldable pub made_after : Store → (CommitNumber → CommitNumber) → ℕ → Store
made_after s ν zero = opening_store s.keys
made_after s ν (suc n) = let before = made_after s ν n in update before (full_view before) (commit_of s (ν (suc n)))

-- "commit numbers may be renamed by the order": of a set of numbers below n, and of a version made by one of the first n commits
unfoldable pub renamed_set : (CommitNumber → CommitNumber) → ℕ → Set → Set
renamed_set ν zero m = 0
renamed_set ν (suc n) m = choose (has m n) (insert (ν n) (renamed_set ν n m)) (renamed_set ν n m)

unfoldable pub renamed : (CommitNumber → CommitNumber) → ℕ → Version → Version
renamed ν n v = record { value = v.value; writer = ν v.writer; readers = renamed_set ν (suc n) v.readers }

-- ---- an order that gives the image

-- the list has each of n commits once
pub record EachOnce (n : ℕ) (order : List CommitNumber) : Type 0 where
  pub only-commits : (i : ℕ) → i < length order → (0 < get_or order i 0) × (get_or order i 0 ≤ n)
  pub none-twice : (i j : ℕ) → i < length order → j < length order → get_or order i 0 ≡ get_or order j 0 → i ≡ j
  pub none-missing : (c : CommitNumber) → 0 < c → c ≤ n → (i : ℕ) × (i < length order) × (get_or order i 0 ≡ c)

pub record IsOrder (s : Store) (order : List CommitNumber) : Type 0 where
  -- "order of its commits"
  pub each-once : EachOnce s.commits order
  -- "with sessions in number order"
  pub in-number-order : (i j : ℕ) → i < j → j < length order → s.client_of (get_or order i 0) ≡ s.client_of (get_or order j 0)
      → s.session_of (get_or order i 0) < s.session_of (get_or order j 0)
  -- "each made from a full view, gives those versions, writers and readers"
  pub gives : (k : Key) → map (renamed (name_in order) (length order)) ((made_after s (name_in order) (length order)).versions k) ≡ s.versions k

-- the same commits as the records of a trace: for each a shift of its client to a full view, and the commit, with a full view after (01, The words of
-- demand 3)
abbrev pub trace_of : Store → List CommitNumber → List Event
trace_of s order = replay_events (opening s.keys) (map (λ t. commit (commit_of s t)) order)
