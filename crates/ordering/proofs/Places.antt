-- The links by the version that makes them: one pass over the versions of each key finds all of them. Assumes nothing.
use Prim.Native.Nat.{ℕ, ◌<◌}
use mathlib.Core.Logic.{◌⊎◌, inl, inr, ◌↔◌, ◌≢◌}
use lib.Dec.{T}
use Rattle.dependencies.specs.History.{write_read, write-write, read-write}
use Rattle.store.specs.Store.{CommitNumber, Store}
use Rattle.store.specs.Links.{LinkKind, so, wr, ww, rw as rw-kind}
use Rattle.store.specs.History.{Wrote, Read}
use Rattle.ordering.specs.Links.{links, IsCommit}
use Rattle.ordering.proofs.Shape.{WellFormed, SessionOrder, LinkOf, some-kind, linked-by-is, link}

-- the links that version i of a key adds to those of the versions before it
pub data Adds (s : Store) (k i a b : ℕ) : Type 0 where
  to-reader : Wrote s a k i → Read s b k i → Adds s k i a b
  from-writer : {j : ℕ} → j < i → Wrote s a k j → Wrote s b k i → Adds s k i a b
  from-reader : {j : ℕ} → j < i → a ≢ b → Read s a k j → Wrote s b k i → Adds s k i a b

module _ (s : Store) (h : WellFormed s) where
  pub links-by-place : (a b : CommitNumber) → T (links s a b)
      ↔ ((IsCommit s.commits a × IsCommit s.commits b) × (SessionOrder s h a b ⊎ ((k : ℕ) × (i : ℕ) × Adds s k i a b)))
  links-by-place a b = (out, λ (c, x). into c x)
    where
      Places : Type 0
      Places = SessionOrder s h a b ⊎ ((k : ℕ) × (i : ℕ) × Adds s k i a b)

      place : (kind : LinkKind) → LinkOf s h kind a b → Places
      place so l = inl l
      place wr (write_read {k} {i} w r) = inr (k, i, to-reader w r)
      place ww (write-write {k} {i} {j} w v l) = inr (k, j, from-writer l w v)
      place rw-kind (read-write {k} {i} {j} r w l n) = inr (k, j, from-reader l n r w)

      out : T (links s a b) → (IsCommit s.commits a × IsCommit s.commits b) × Places
      out t = let x = some-kind s a b t in let y = (linked-by-is s h x.0 a b).0 x.1 in (y.0, place x.0 y.1)

      into : IsCommit s.commits a × IsCommit s.commits b → Places → T (links s a b)
      into (ca, cb) (inl l) = link s h so ca cb l
      into (ca, cb) (inr (k, i, to-reader w r)) = link s h wr ca cb (write_read w r)
      into (ca, cb) (inr (k, i, from-writer l w v)) = link s h ww ca cb (write-write w v l)
      into (ca, cb) (inr (k, i, from-reader l n r w)) = link s h rw-kind ca cb (read-write r w l n)
