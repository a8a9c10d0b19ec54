-- How the four kinds of link grow by a commit: each link after it was there before, or ends at the new commit, or is an RW link that leaves it.
-- Assumes nothing.
use mathlib.Core.Path.{◌≡◌, refl, sym, ap, ◌∙◌}
use mathlib.Core.Logic.{◌⊎◌, inl, inr, ◌↔◌, ◌≢◌}
use Prim.Native.Nat.{ℕ, ◌<◌}
use native.Mathlib.Omega.{arith}
use lib.Dec.{T}
use Rattle.dependencies.specs.History.{Stored, as-writer, as-reader, SO, session-order, WR, write_read, WW, write-write, RW, read-write}
use Rattle.store.specs.Store.{CommitNumber, View, Store, count, next_number, Commit}
use Rattle.store.specs.Update.{reads, writes, newest, update}
use Rattle.store.specs.History.{Wrote, Read, history}
use Rattle.growth.specs.Made.{Made, Operates}
use Rattle.growth.proofs.Made.{read-exists, wrote_after, read-after, newer-stored, stored-after, stored-not-new, client-kept, client-new, session-kept, session-new, after}
use Rattle.growth.specs.Links.{FromSession, FromRead, FromWrite, FromReader, ToLater}

-- such commits stand in the store before
pub from-reader-stored : (s : Store) (c : Commit) {a : CommitNumber} → FromReader s c a → Stored (history s) a
from-reader-stored s c (k, _, (i, r)) = as-reader {k = k} {i = i} r

pub to-later-stored : (s : Store) (u : View) (c : Commit) {b : CommitNumber} → ToLater s u c b → Stored (history s) b
to-later-stored s u c (k, _, (j, _, w)) = as-writer {k = k} {i = j} w

-- ---- the links after the commit

module _ (s : Store) (u : View) (c : Commit) (m : Made s u c) where
  pub SO-after : (a b : CommitNumber) → SO (after s u c) a b ↔ (SO (history s) a b ⊎ ((b ≡ next_number s) × FromSession s c a))
  SO-after a b = (out, back)
    where
      cases : 0 < a → 0 < b → (update s u c).client_of a ≡ (update s u c).client_of b → (update s u c).session_of a < (update s u c).session_of b
          → Stored (history s) a ⊎ ((a ≡ next_number s) × Operates c) → Stored (history s) b ⊎ ((b ≡ next_number s) × Operates c) → SO (history s) a b ⊎ ((b ≡ next_number s) × FromSession s c a)
      cases p q e l (inl x) (inl y) =
          let na = stored-not-new s u c m x in
          let nb = stored-not-new s u c m y in
          inl (session-order x y p q (sym (client-kept s u c m na) ∙ e ∙ client-kept s u c m nb) (rw (← session-kept s u c m na, ← session-kept s u c m nb) l))
      cases p q e l (inl x) (inr (z, o)) =
          inr (z, (o, (x, p, sym (client-kept s u c m (stored-not-new s u c m x)) ∙ e ∙ ap (update s u c).client_of z ∙ client-new s u c m)))
      cases p q e l (inr (z, o)) (inl y) =
          let nb = stored-not-new s u c m y in
          let by : s.client_of b ≡ c.client = sym (client-kept s u c m nb) ∙ sym e ∙ ap (update s u c).client_of z ∙ client-new s u c m in
          let n : s.session_of b < c.session = newer-stored s u c m y q by in
          let f : (update s u c).session_of a ≡ c.session = ap (update s u c).session_of z ∙ session-new s u c m in
          let g : (update s u c).session_of b ≡ s.session_of b = session-kept s u c m nb in
          absurd (omega arith)
      cases p q e l (inr (z, o)) (inr (z', _)) = let f : (update s u c).session_of a ≡ (update s u c).session_of b = ap (update s u c).session_of (z ∙ sym z') in absurd (omega arith)

      out : SO (after s u c) a b → SO (history s) a b ⊎ ((b ≡ next_number s) × FromSession s c a)
      out (session-order x y p q e l) = cases p q e l ((stored-after s u c m a).0 x) ((stored-after s u c m b).0 y)

      back : SO (history s) a b ⊎ ((b ≡ next_number s) × FromSession s c a) → SO (after s u c) a b
      back (inl (session-order x y p q e l)) =
          let na = stored-not-new s u c m x in
          let nb = stored-not-new s u c m y in
          session-order ((stored-after s u c m a).1 (inl x)) ((stored-after s u c m b).1 (inl y)) p q
          (client-kept s u c m na ∙ e ∙ sym (client-kept s u c m nb)) (rw (session-kept s u c m na, session-kept s u c m nb) l)
      back (inr (z, (o, (x, p, e)))) =
          let na = stored-not-new s u c m x in
          session-order ((stored-after s u c m a).1 (inl x)) ((stored-after s u c m b).1 (inr (z, o))) p (omega arith)
          (client-kept s u c m na ∙ e ∙ sym (ap (update s u c).client_of z ∙ client-new s u c m))
          (rw (session-kept s u c m na, z, session-new s u c m) (newer-stored s u c m x p e))

  pub WR-after : (a b : CommitNumber) → WR (after s u c) a b ↔ (WR (history s) a b ⊎ ((b ≡ next_number s) × FromRead s u c a))
  WR-after a b = (out, back)
    where
      cases : (k i : ℕ) → Wrote s a k i ⊎ ((a ≡ next_number s) × T (writes c k) × (i ≡ count s k)) → Read s b k i ⊎ ((b ≡ next_number s) × T (reads c k) × (i ≡ newest u k))
          → WR (history s) a b ⊎ ((b ≡ next_number s) × FromRead s u c a)
      cases k i (inl w) (inl r) = inl (write_read {k = k} {i = i} w r)
      cases k i (inl w) (inr (e, r, j)) = inr (e, (k, r, rw (← j) w.1))
      cases k i (inr (_, _, j)) (inl r) = let l : i < count s k = r.0 in absurd (omega arith)
      cases k i (inr (_, _, j)) (inr (_, r, j')) = let l : newest u k < count s k = read-exists s u c m k r in absurd (omega arith)

      out : WR (after s u c) a b → WR (history s) a b ⊎ ((b ≡ next_number s) × FromRead s u c a)
      out (write_read {k} {i} w r) = cases k i ((wrote_after s u c m a k i).0 w) ((read-after s u c m b k i).0 r)

      back : WR (history s) a b ⊎ ((b ≡ next_number s) × FromRead s u c a) → WR (after s u c) a b
      back (inl (write_read {k} {i} w r)) = write_read {k = k} {i = i} ((wrote_after s u c m a k i).1 (inl w)) ((read-after s u c m b k i).1 (inl r))
      back (inr (e, (k, r, w))) =
          write_read {k = k} {i = newest u k} ((wrote_after s u c m a k (newest u k)).1 (inl (read-exists s u c m k r, w))) ((read-after s u c m b k (newest u k)).1 (inr (e, r, refl)))

  pub WW-after : (a b : CommitNumber) → WW (after s u c) a b ↔ (WW (history s) a b ⊎ ((b ≡ next_number s) × FromWrite s c a))
  WW-after a b = (out, back)
    where
      cases : (k i j : ℕ) → i < j → Wrote s a k i ⊎ ((a ≡ next_number s) × T (writes c k) × (i ≡ count s k)) → Wrote s b k j ⊎ ((b ≡ next_number s) × T (writes c k) × (j ≡ count s k))
          → WW (history s) a b ⊎ ((b ≡ next_number s) × FromWrite s c a)
      cases k i j l (inl w) (inl v) = inl (write-write {k = k} {i = i} {j = j} w v l)
      cases k i j l (inl w) (inr (e, x, _)) = inr (e, (k, x, (i, w)))
      cases k i j l (inr (_, _, q)) (inl v) = let n : j < count s k = v.0 in absurd (omega arith)
      cases k i j l (inr (_, _, q)) (inr (_, _, q')) = absurd (omega arith)

      out : WW (after s u c) a b → WW (history s) a b ⊎ ((b ≡ next_number s) × FromWrite s c a)
      out (write-write {k} {i} {j} w v l) = cases k i j l ((wrote_after s u c m a k i).0 w) ((wrote_after s u c m b k j).0 v)

      back : WW (history s) a b ⊎ ((b ≡ next_number s) × FromWrite s c a) → WW (after s u c) a b
      back (inl (write-write {k} {i} {j} w v l)) = write-write {k = k} {i = i} {j = j} ((wrote_after s u c m a k i).1 (inl w)) ((wrote_after s u c m b k j).1 (inl v)) l
      back (inr (e, (k, x, (i, w)))) =
          write-write {k = k} {i = i} {j = count s k} ((wrote_after s u c m a k i).1 (inl w)) ((wrote_after s u c m b k (count s k)).1 (inr (e, x, refl))) w.0

  pub RW-after : (a b : CommitNumber) → RW (after s u c) a b ↔ (RW (history s) a b ⊎ (((b ≡ next_number s) × FromReader s c a) ⊎ ((a ≡ next_number s) × ToLater s u c b)))
  RW-after a b = (out, back)
    where
      cases : (k i j : ℕ) → i < j → a ≢ b → Read s a k i ⊎ ((a ≡ next_number s) × T (reads c k) × (i ≡ newest u k)) → Wrote s b k j ⊎ ((b ≡ next_number s) × T (writes c k) × (j ≡ count s k))
          → RW (history s) a b ⊎ (((b ≡ next_number s) × FromReader s c a) ⊎ ((a ≡ next_number s) × ToLater s u c b))
      cases k i j l n (inl r) (inl w) = inl (read-write {k = k} {i = i} {j = j} r w l n)
      cases k i j l n (inl r) (inr (e, x, _)) = inr (inl (e, (k, x, (i, r))))
      cases k i j l n (inr (e, x, q)) (inl w) = inr (inr (e, (k, x, (j, rw (← q) l, w))))
      cases k i j l n (inr (e, _, _)) (inr (e', _, _)) = absurd (n (e ∙ sym e'))

      out : RW (after s u c) a b → RW (history s) a b ⊎ (((b ≡ next_number s) × FromReader s c a) ⊎ ((a ≡ next_number s) × ToLater s u c b))
      out (read-write {k} {i} {j} r w l n) = cases k i j l n ((read-after s u c m a k i).0 r) ((wrote_after s u c m b k j).0 w)

      back : RW (history s) a b ⊎ (((b ≡ next_number s) × FromReader s c a) ⊎ ((a ≡ next_number s) × ToLater s u c b)) → RW (after s u c) a b
      back (inl (read-write {k} {i} {j} r w l n)) = read-write {k = k} {i = i} {j = j} ((read-after s u c m a k i).1 (inl r)) ((wrote_after s u c m b k j).1 (inl w)) l n
      back (inr (inl (e, (k, x, (i, r))))) =
          read-write {k = k} {i = i} {j = count s k} ((read-after s u c m a k i).1 (inl r)) ((wrote_after s u c m b k (count s k)).1 (inr (e, x, refl))) r.0
          (λ q. stored-not-new s u c m (as-reader {k = k} {i = i} r) (q ∙ e))
      back (inr (inr (e, (k, x, (j, l, w))))) =
          read-write {k = k} {i = newest u k} {j = j} ((read-after s u c m a k (newest u k)).1 (inr (e, x, refl))) ((wrote_after s u c m b k j).1 (inl w)) l
          (λ q. stored-not-new s u c m (as-writer {k = k} {i = j} w) (sym q ∙ e))
