-- Visibility (02, E14): "the later one's view held a version that the earlier wrote", said of a store, which keeps the view of each commit (02, E8).
-- "Arbitration is commit order (document 004)." Assumes nothing.
use Rattle.std.specs.Prelude.{ℕ, zero, suc, ◌≤◌, ◌<◌, Bool, ◌&&◌, List, [], ◌∷◌, T, ltb}
use Rattle.std.proofs.Math.Option.{Option, some, none}
use Rattle.sets.specs.Set.{Set, set_of}
use Rattle.endian.specs.Endian.{pieces}
use Rattle.store.specs.Store.{Key, VersionNumber, CommitNumber, Value, Store, count, version, next_number, Commit, Event, shift, commit}
use Rattle.store.specs.Links.{holds}

-- commit a is visible to commit b: "the later one's view held a version that the earlier wrote". The opening transaction is no commit: "bit 0 never"
unfoldable pub visible : Store → CommitNumber → CommitNumber → Bool
visible s a b = ltb 0 a && holds s (s.view_of b) a

-- "bit c set exactly if commit c is visible to it"
abbrev pub row : Store → CommitNumber → Set
row s b = set_of (next_number s) (λ a. visible s a b)

-- "one u64 row per commit in order"
unfoldable pub rows : Store → List Set
rows s = pieces s.commits (λ i. row s (suc i) ∷ [])

-- ---- reads

-- commit number b + 1 of a list of records
unfoldable pub commit_numbered : List Event → ℕ → Option Commit
commit_numbered [] b = none
commit_numbered (shift d u ∷ es) b = commit_numbered es b
commit_numbered (commit c ∷ es) zero = some c
commit_numbered (commit c ∷ es) (suc b) = commit_numbered es b

-- "the value of the last visible writer of its key, or 0": of key k, to commit b
pub data LastVisible (s : Store) (b : CommitNumber) (k : Key) : Value → Type 0 where
  last : {i : VersionNumber} → i < count s k → T (visible s (version s k i).writer b)
      → ((j : VersionNumber) → j < count s k → T (visible s (version s k j).writer b) → (version s k j).writer ≤ (version s k i).writer)
      → LastVisible s b k (version s k i).value
  nobody : ((j : VersionNumber) → j < count s k → ¬ T (visible s (version s k j).writer b)) → LastVisible s b k 0
