-- Who wrote and who read which version, the links between commits that follow from it, and clauses 2 to 8 on a view (01, Clauses and
-- levels, and 02, E4, for clause 2; quoted words are from there). These are meanings: nothing here computes, and nothing knows how a store is kept. Assumes nothing.
use Rattle.std.specs.Prelude.{ℕ, ◌<◌, ◌≡◌, ◌⊎◌, ◌≢◌}
use Rattle.relations.specs.Relation.{ThenMaybe, Plus}

-- `wrote t k i`: commit t wrote version i of key k; `read t k i`: it read that version
pub record History : Type 1 where
  pub wrote : ℕ → ℕ → ℕ → Type 0
  pub read : ℕ → ℕ → ℕ → Type 0
  pub client_of : ℕ → ℕ
  pub session_of : ℕ → ℕ

-- the commit "appears in the store as writer or reader"
pub data Stored (H : History) (a : ℕ) : Type 0 where
  as-writer : {k i : ℕ} → H.wrote a k i → Stored H a
  as-reader : {k i : ℕ} → H.read a k i → Stored H a

-- every commit of the store has a number below n
abbrev pub StoredBelow : ℕ → History → Type 0
StoredBelow n H = (a : ℕ) → Stored H a → a < n

-- ---- links

-- "SO: same client, smaller session number to larger, among commits in the store (so none without operations); the opening
-- transaction is in no SO pair."
pub data SO (H : History) (a b : ℕ) : Type 0 where
  session-order : Stored H a → Stored H b → 0 < a → 0 < b → H.client_of a ≡ H.client_of b → H.session_of a < H.session_of b → SO H a b

-- "WR: writer to reader of a version."
pub data WR (H : History) (a b : ℕ) : Type 0 where
  write_read : {k i : ℕ} → H.wrote a k i → H.read b k i → WR H a b

-- "WW: writer to writer of a later version of one key."
pub data WW (H : History) (a b : ℕ) : Type 0 where
  write-write : {k i j : ℕ} → H.wrote a k i → H.wrote b k j → i < j → WW H a b

-- "RW: reader of a version to the writer of a later one of that key, unless the same."
pub data RW (H : History) (a b : ℕ) : Type 0 where
  read-write : {k i j : ℕ} → H.read a k i → H.wrote b k j → i < j → a ≢ b → RW H a b

-- a link of another kind than RW
pub data PlainLink (H : History) (a b : ℕ) : Type 0 where
  by-SO : SO H a b → PlainLink H a b
  by-WR : WR H a b → PlainLink H a b
  by-WW : WW H a b → PlainLink H a b

-- "A dependency is an SO, WR, WW or RW link"
abbrev pub Dependency : History → ℕ → ℕ → Type 0
Dependency H a b = PlainLink H a b ⊎ RW H a b

-- a link of the path of clause 6: "SO;RW? or WR;RW? or WW"
abbrev pub PrefixStep : History → ℕ → ℕ → Type 0
PrefixStep H a b = ThenMaybe (SO H) (RW H) a b ⊎ (ThenMaybe (WR H) (RW H) a b ⊎ WW H a b)

-- a link of the path of clause 7: "SO;RW? or WR;RW? or WW;RW?"
abbrev pub SnapshotStep : History → ℕ → ℕ → Type 0
SnapshotStep H = ThenMaybe (PlainLink H) (RW H)

-- ---- clauses

-- `U k i`: the view holds version i of key k
abbrev pub Held : Type 1
Held = ℕ → ℕ → Type 0

-- "u holds a version by t"
abbrev pub Holds : History → Held → ℕ → Type 0
Holds H U t = (k : ℕ) × (i : ℕ) × U k i × H.wrote t k i

-- it holds every "versions by" t
abbrev pub AllOf : History → Held → ℕ → Type 0
AllOf H U t = (k i : ℕ) → H.wrote t k i → U k i

-- clauses 3, 6 and 7: "if u holds a version by t, versions by any t' with t' to t in" R
abbrev pub Closed : (ℕ → ℕ → Type 0) → History → Held → Type 0
Closed R H U = (a b : ℕ) → Holds H U b → R a b → AllOf H U a

-- 2, RYW, of the view after commit t: it holds "every version written by this commit or by any commit before it in SO"
abbrev pub ReadYourWrites : History → Held → ℕ → Type 0
ReadYourWrites H U t = AllOf H U t × ((a : ℕ) → SO H a t → AllOf H U a)

-- 3, MW: "if u holds a version by t, versions by any t' with t' SO t"
abbrev pub MonotonicWrites : History → Held → Type 0
MonotonicWrites H = Closed (SO H) H

-- 4, WFR: "if u holds a version by t, each version read by t or by a t' with t' SO t"
abbrev pub WriteFollowsReads : History → Held → Type 0
WriteFollowsReads H U = (b : ℕ) → Holds H U b → ((k i : ℕ) → H.read b k i → U k i) × ((a k i : ℕ) → SO H a b → H.read a k i → U k i)

-- 5, UA: "every version of each key written"
abbrev pub UpdateAtomic : History → Held → (ℕ → Type 0) → Type 0
UpdateAtomic H U writes = (a k i : ℕ) → writes k → H.wrote a k i → U k i

-- 6, CP: "if u holds a version by t, versions by any t' with t' to t in (SO;RW? or WR;RW? or WW)+"
abbrev pub ConsistentPrefix : History → Held → Type 0
ConsistentPrefix H = Closed (Plus (PrefixStep H)) H

-- 7, SI: "as 6, with (SO;RW? or WR;RW? or WW;RW?)+"
abbrev pub SnapshotIsolation : History → Held → Type 0
SnapshotIsolation H = Closed (Plus (SnapshotStep H)) H

-- 8, SER: "every version of every key"
abbrev pub Serialisable : History → Held → Type 0
Serialisable H U = (a : ℕ) → AllOf H U a
