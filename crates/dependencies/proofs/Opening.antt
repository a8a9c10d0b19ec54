-- The history of an opening store has no links, so no closed walks. Assumes nothing.
use Prim.Native.Nat.{ℕ}
use native.Mathlib.Omega.{arith}
use mathlib.Core.Path.{◌≡◌}
use mathlib.Core.Logic.{inl, inr}
use Rattle.relations.specs.Relation.{alone, followed}
use Rattle.relations.proofs.Walks.{Acyclic, no-links-acyclic}
use Rattle.dependencies.specs.History.{History, Stored, as-writer, as-reader, session-order, write_read, write-write, read-write, PlainLink, by-SO, by-WR, by-WW, Dependency, SnapshotStep}

-- "At the start each list is version 0: value 0, writer the opening transaction (number 0), no readers"
pub record Opening (H : History) : Type 0 where
  pub only-first : (a k i : ℕ) → H.wrote a k i → (a ≡ 0) × (i ≡ 0)
  pub no-readers : (a k i : ℕ) → ¬ H.read a k i

module _ (H : History) (o : Opening H) where
  pub stored-is-0 : {a : ℕ} → Stored H a → a ≡ 0
  stored-is-0 (as-writer w) = (o.only-first _ _ _ w).0
  stored-is-0 (as-reader r) = absurd (o.no-readers _ _ _ r)

  pub no_plain : {a b : ℕ} → ¬ PlainLink H a b
  no_plain {a} (by-SO (session-order sa sb pa pb same less)) = let e : a ≡ 0 = stored-is-0 sa in omega arith
  no_plain (by-WR (write_read w r)) = o.no-readers _ _ _ r
  no_plain (by-WW (write-write {k} {i} {j} w w' l)) = let e : j ≡ 0 = (o.only-first _ _ _ w').1 in omega arith

  pub no-dependency : (a b : ℕ) → ¬ Dependency H a b
  no-dependency a b (inl d) = no_plain d
  no-dependency a b (inr (read-write r w l n)) = o.no-readers _ _ _ r

  no_step : (a b : ℕ) → ¬ SnapshotStep H a b
  no_step a b (alone d) = no_plain d
  no_step a b (followed d r) = no_plain d

  pub opening-snapshot-acyclic : Acyclic (SnapshotStep H)
  opening-snapshot-acyclic = no-links-acyclic no_step

  pub opening-acyclic : Acyclic (Dependency H)
  opening-acyclic = no-links-acyclic no-dependency
