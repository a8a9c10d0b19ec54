-- Links lead from commits of the store to commits of the store, so both their ends are bounded where the numbers of its commits are; with this the computed
-- closure finds every path of clauses 6 and 7. Assumes nothing.
use Prim.Native.Nat.{ℕ, ◌<◌}
use mathlib.Core.Logic.{inl, inr}
use Rattle.relations.proofs.Closure.{Below, then_maybe-below}
use Rattle.relations.specs.Relation.{ThenMaybe, alone, followed}
use Rattle.dependencies.specs.History.{History, StoredBelow, as-writer, as-reader, SO, session-order, WR, write_read, WW, write-write, RW, read-write, PlainLink, by-SO, by-WR, by-WW, PrefixStep, SnapshotStep}

module _ (n : ℕ) (H : History) (below : StoredBelow n H) where
  pub SO-below : Below n (SO H)
  SO-below a b (session-order sa sb pa pb same less) = below b sb

  pub WR-below : Below n (WR H)
  WR-below a b (write_read w r) = below b (as-reader r)

  pub WW-below : Below n (WW H)
  WW-below a b (write-write w w' l) = below b (as-writer w')

  pub RW-below : Below n (RW H)
  RW-below a b (read-write r w l n) = below b (as-writer w)

  pub plain-below : Below n (PlainLink H)
  plain-below a b (by-SO s) = SO-below a b s
  plain-below a b (by-WR s) = WR-below a b s
  plain-below a b (by-WW s) = WW-below a b s

  pub prefix-below : Below n (PrefixStep H)
  prefix-below a b (inl s) = then_maybe-below n SO-below RW-below a b s
  prefix-below a b (inr (inl s)) = then_maybe-below n WR-below RW-below a b s
  prefix-below a b (inr (inr s)) = WW-below a b s

  pub snapshot-below : Below n (SnapshotStep H)
  snapshot-below = then_maybe-below n plain-below RW-below

  -- ---- where they start

  pub plain-from-below : (a b : ℕ) → PlainLink H a b → a < n
  plain-from-below a b (by-SO (session-order sa sb pa pb same less)) = below a sa
  plain-from-below a b (by-WR (write_read w r)) = below a (as-writer w)
  plain-from-below a b (by-WW (write-write w w' l)) = below a (as-writer w)

  maybe-from-below : {R Q : ℕ → ℕ → Type 0} → ((a b : ℕ) → R a b → PlainLink H a b) → (a b : ℕ) → ThenMaybe R Q a b → a < n
  maybe-from-below plain a b (alone r) = plain-from-below a b (plain a b r)
  maybe-from-below plain a b (followed r q) = plain-from-below a _ (plain a _ r)

  pub prefix-from-below : (a b : ℕ) → PrefixStep H a b → a < n
  prefix-from-below a b (inl s) = maybe-from-below (λ x y. by-SO) a b s
  prefix-from-below a b (inr (inl s)) = maybe-from-below (λ x y. by-WR) a b s
  prefix-from-below a b (inr (inr s)) = plain-from-below a b (by-WW s)

  pub snapshot-from-below : (a b : ℕ) → SnapshotStep H a b → a < n
  snapshot-from-below = maybe-from-below (λ x y l. l)
