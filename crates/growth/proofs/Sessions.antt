-- What the sessions have read: the writers of the versions that the commits of a client read, and of those that a commit or one before it in its session
-- read (clause 4), and how both grow by a commit. Assumes nothing.
use mathlib.Core.Path.{◌≡◌, refl, subst}
use mathlib.Core.Logic.{◌⊎◌, inl, inr, ◌↔◌}
use Prim.Native.Nat.{◌<◌}
use native.Mathlib.Omega.{arith}
use Rattle.dependencies.specs.History.{Stored, as-reader, SO, session-order, WR, write_read}
use Rattle.store.specs.Store.{CommitNumber, Client, View, Store, next_number, Commit}
use Rattle.store.specs.Sound.{SoundStore}
use Rattle.store.specs.History.{history}
use Rattle.growth.specs.Made.{Made, CommitBy, Operates}
use Rattle.growth.proofs.Made.{stored-not-new, commit-by-after, after}
use Rattle.growth.specs.Ordered.{Ordered}
use Rattle.growth.proofs.Ordered.{SO-rises, WR-rises}
use Rattle.growth.specs.Links.{FromSession, FromRead}
use Rattle.growth.proofs.Links.{SO-after, WR-after}
use Rattle.growth.specs.Sessions.{ReadByClient, ReadUpTo}

-- such an a has a smaller number than t
pub read-up-to-rises : (s : Store) → SoundStore s → Ordered s → (a t : CommitNumber) → ReadUpTo (history s) a t → a < t
read-up-to-rises s h o a t (r, inl e, w) = let l : a < r = WR-rises s h o a r w in omega arith
read-up-to-rises s h o a t (r, inr x, w) = let l : a < r = WR-rises s h o a r w in let l' : r < t = SO-rises s h o r t x in omega arith

module _ (s : Store) (u : View) (c : Commit) (m : Made s u c) where
  -- a commit that was there has read what it had
  read-from-old : (a r : CommitNumber) → Stored (history s) r → WR (after s u c) a r → WR (history s) a r
  read-from-old a r x y = go ((WR-after s u c m a r).0 y)
    where
      go : WR (history s) a r ⊎ ((r ≡ next_number s) × FromRead s u c a) → WR (history s) a r
      go (inl z) = z
      go (inr (e, _)) = absurd (stored-not-new s u c m x e)

  reads-operates : {a : CommitNumber} → FromRead s u c a → Operates c
  reads-operates (k, r, _) = (k, inl r)

  reader-stored : {a r : CommitNumber} → WR (history s) a r → Stored (history s) r
  reader-stored (write_read {k} {i} w x) = as-reader {k = k} {i = i} x

  -- what the new commit reads is read by its client
  pub read-by-client-after : (d : Client) (a : CommitNumber) → ReadByClient (after s u c) d a ↔ (ReadByClient (history s) d a ⊎ ((c.client ≡ d) × FromRead s u c a))
  read-by-client-after d a = (λ (r, x, y). out r y ((commit-by-after s u c m d r).0 x), back)
    where
      new : (r : CommitNumber) → r ≡ next_number s → WR (history s) a r ⊎ ((r ≡ next_number s) × FromRead s u c a) → FromRead s u c a
      new r e (inl y) = absurd (stored-not-new s u c m (reader-stored y) e)
      new r e (inr (_, y)) = y

      out : (r : CommitNumber) → WR (after s u c) a r → CommitBy (history s) d r ⊎ ((r ≡ next_number s) × Operates c × (c.client ≡ d)) → ReadByClient (history s) d a ⊎ ((c.client ≡ d) × FromRead s u c a)
      out r y (inl x) = inl (r, x, read-from-old a r x.0 y)
      out r y (inr (e, _, q)) = inr (q, new r e ((WR-after s u c m a r).0 y))

      back : ReadByClient (history s) d a ⊎ ((c.client ≡ d) × FromRead s u c a) → ReadByClient (after s u c) d a
      back (inl (r, x, y)) = (r, (commit-by-after s u c m d r).1 (inl x), (WR-after s u c m a r).1 (inl y))
      back (inr (q, y)) = ((next_number s), (commit-by-after s u c m d (next_number s)).1 (inr (refl, reads-operates y, q)), (WR-after s u c m a (next_number s)).1 (inr (refl, y)))

  -- up to the new commit: what it reads, and what its client has read
  pub read-up-to-after : (a t : CommitNumber)
      → ReadUpTo (after s u c) a t ↔ (ReadUpTo (history s) a t ⊎ ((t ≡ next_number s) × (FromRead s u c a ⊎ (Operates c × ReadByClient (history s) c.client a))))
  read-up-to-after a t = (λ (r, x, y). out r y x, back)
    where
      New : Type 0
      New = (t ≡ next_number s) × (FromRead s u c a ⊎ (Operates c × ReadByClient (history s) c.client a))

      by-it : WR (history s) a t ⊎ ((t ≡ next_number s) × FromRead s u c a) → ReadUpTo (history s) a t ⊎ New
      by-it (inl y) = inl (t, inl refl, y)
      by-it (inr (e, y)) = inr (e, inl y)

      before : (r : CommitNumber) → WR (after s u c) a r → SO (history s) r t ⊎ ((t ≡ next_number s) × FromSession s c r) → ReadUpTo (history s) a t ⊎ New
      before r y (inl (session-order x z p q e l)) = inl (r, inr (session-order x z p q e l), read-from-old a r x y)
      before r y (inr (e, (o, x))) = inr (e, inr (o, (r, x, read-from-old a r x.0 y)))

      out : (r : CommitNumber) → WR (after s u c) a r → (r ≡ t) ⊎ SO (after s u c) r t → ReadUpTo (history s) a t ⊎ New
      out r y (inl e) = by-it ((WR-after s u c m a t).0 (subst (WR (after s u c) a) e y))
      out r y (inr x) = before r y ((SO-after s u c m r t).0 x)

      back : ReadUpTo (history s) a t ⊎ New → ReadUpTo (after s u c) a t
      back (inl (r, inl e, y)) = (r, inl e, (WR-after s u c m a r).1 (inl y))
      back (inl (r, inr x, y)) = (r, inr ((SO-after s u c m r t).1 (inl x)), (WR-after s u c m a r).1 (inl y))
      back (inr (e, inl y)) = (t, inl refl, (WR-after s u c m a t).1 (inr (e, y)))
      back (inr (e, inr (o, (r, x, y)))) = (r, inr ((SO-after s u c m r t).1 (inr (e, (o, x)))), (WR-after s u c m a r).1 (inl y))
