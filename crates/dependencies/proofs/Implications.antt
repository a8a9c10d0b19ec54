-- Which clause implies which, for one history and one view. 3, 6 and 7 are one clause over different relations, so what implies what is
-- shown once for any relation: it turns only on what a relation contains. Assumes nothing.
use Prim.Native.Nat.{ℕ}
use mathlib.Core.Logic.{◌⊎◌, inl, inr, ◌↔◌}
use Rattle.relations.specs.Relation.{ThenMaybe, alone, followed, Plus, one, more}
use Rattle.relations.proofs.Walks.{plus-map, then_maybe-map}
use Rattle.dependencies.specs.History.{History, SO, WR, write_read, WW, RW, by-SO, by-WR, by-WW, PrefixStep, SnapshotStep, Held, Closed, MonotonicWrites, WriteFollowsReads, UpdateAtomic, ConsistentPrefix, SnapshotIsolation, Serialisable}

-- every version that was read was written by some commit
abbrev pub ReadsWritten : History → Type 0
ReadsWritten H = (b k i : ℕ) → H.read b k i → (a : ℕ) × H.wrote a k i

-- every link of one relation is one of the other
abbrev pub Contains : (ℕ → ℕ → Type 0) → (ℕ → ℕ → Type 0) → Type 0
Contains R Q = (a b : ℕ) → Q a b → R a b

-- ---- what the steps of clauses 6 and 7 contain

module _ (H : History) where
  prefix-SO : Contains (PrefixStep H) (SO H)
  prefix-SO a b s = inl (alone s)

  prefix-WR : Contains (PrefixStep H) (WR H)
  prefix-WR a b s = inr (inl (alone s))

  snapshot-SO : Contains (SnapshotStep H) (SO H)
  snapshot-SO a b s = alone (by-SO s)

  snapshot-WR : Contains (SnapshotStep H) (WR H)
  snapshot-WR a b s = alone (by-WR s)

  -- a step of clause 7, in the words of 01: "SO;RW? or WR;RW? or WW;RW?"
  pub snapshot_step-is : (a b : ℕ) → (ThenMaybe (SO H) (RW H) a b ⊎ (ThenMaybe (WR H) (RW H) a b ⊎ ThenMaybe (WW H) (RW H) a b)) ↔ SnapshotStep H a b
  snapshot_step-is a b = (into, out)
    where
      into : ThenMaybe (SO H) (RW H) a b ⊎ (ThenMaybe (WR H) (RW H) a b ⊎ ThenMaybe (WW H) (RW H) a b) → SnapshotStep H a b
      into (inl s) = then_maybe-map (λ x y. by-SO) (λ x y r. r) s
      into (inr (inl s)) = then_maybe-map (λ x y. by-WR) (λ x y r. r) s
      into (inr (inr s)) = then_maybe-map (λ x y. by-WW) (λ x y r. r) s

      out : SnapshotStep H a b → ThenMaybe (SO H) (RW H) a b ⊎ (ThenMaybe (WR H) (RW H) a b ⊎ ThenMaybe (WW H) (RW H) a b)
      out (alone (by-SO s)) = inl (alone s)
      out (alone (by-WR s)) = inr (inl (alone s))
      out (alone (by-WW s)) = inr (inr (alone s))
      out (followed (by-SO s) r) = inl (followed s r)
      out (followed (by-WR s) r) = inr (inl (followed s r))
      out (followed (by-WW s) r) = inr (inr (followed s r))

  pub snapshot-prefix : Contains (SnapshotStep H) (PrefixStep H)
  snapshot-prefix a b (inl s) = (snapshot_step-is a b).0 (inl s)
  snapshot-prefix a b (inr (inl s)) = (snapshot_step-is a b).0 (inr (inl s))
  snapshot-prefix a b (inr (inr s)) = (snapshot_step-is a b).0 (inr (inr (alone s)))

module _ (H : History) (U : Held) where
  -- ---- for any relation

  -- a view that is closed under a relation is closed under what it contains
  closed-contains : {R Q : ℕ → ℕ → Type 0} → Contains R Q → Closed R H U → Closed Q H U
  closed-contains f h a b hb q = h a b hb (f a b q)

  -- steps that contain SO give clause 3
  pub steps→3 : {S : ℕ → ℕ → Type 0} → Contains S (SO H) → Closed (Plus S) H U → MonotonicWrites H U
  steps→3 so = closed-contains (λ a b s. one (so a b s))

  -- steps that contain SO and WR give clause 4: what t read, or a t' before it read, was written by a commit that leads to t
  pub steps→4 : {S : ℕ → ℕ → Type 0} → Contains S (SO H) → Contains S (WR H) → ReadsWritten H → Closed (Plus S) H U → WriteFollowsReads H U
  steps→4 so wr written h b hb = (
    λ k i r. let w = written b k i r in h _ b hb (one (wr _ b (write_read w.1 r))) k i w.1,
    λ a k i s r. let w = written a k i r in h _ b hb (more (wr _ a (write_read w.1 r)) (one (so a b s))) k i w.1,
  )

  -- ---- for the clauses

  pub 7→6 : SnapshotIsolation H U → ConsistentPrefix H U
  7→6 = closed-contains (λ a b. plus-map (snapshot-prefix H))

  pub 6→3 : ConsistentPrefix H U → MonotonicWrites H U
  6→3 = steps→3 (prefix-SO H)

  pub 6→4 : ReadsWritten H → ConsistentPrefix H U → WriteFollowsReads H U
  6→4 = steps→4 (prefix-SO H) (prefix-WR H)

  pub 7→3 : SnapshotIsolation H U → MonotonicWrites H U
  7→3 = steps→3 (snapshot-SO H)

  pub 7→4 : ReadsWritten H → SnapshotIsolation H U → WriteFollowsReads H U
  7→4 = steps→4 (snapshot-SO H) (snapshot-WR H)

  -- a view that holds everything is closed under every relation
  8→closed : (R : ℕ → ℕ → Type 0) → Serialisable H U → Closed R H U
  8→closed R h a b hb r = h a

  pub 8→3 : Serialisable H U → MonotonicWrites H U
  8→3 = 8→closed (SO H)

  pub 8→5 : (writes : ℕ → Type 0) → Serialisable H U → UpdateAtomic H U writes
  8→5 writes h a k i w = h a k i

  pub 8→6 : Serialisable H U → ConsistentPrefix H U
  8→6 = 8→closed (Plus (PrefixStep H))

  pub 8→7 : Serialisable H U → SnapshotIsolation H U
  8→7 = 8→closed (Plus (SnapshotStep H))

  pub 8→4 : ReadsWritten H → Serialisable H U → WriteFollowsReads H U
  8→4 written h = 7→4 written (8→7 h)
