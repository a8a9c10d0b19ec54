-- Clauses 2 to 8 on sets of commits: a view passes a clause exactly where no commit that the clause wants is lacking, that is, has written something of which the
-- view holds nothing. Clauses 3, 6 and 7 are one law with the links as a parameter. Assumes nothing.
use mathlib.Core.Path.{◌≡◌, refl, subst}
use mathlib.Core.Bool.{Bool, ◌&&◌, not}
use mathlib.Core.Logic.{◌⊎◌, inl, inr, ◌↔◌}
use Prim.Native.Nat.{ℕ, ◌<◌}
use native.Mathlib.Omega.{arith}
use lib.Dec.{T}
use Rattle.search.specs.Search.{any}
use Rattle.search.proofs.Tests.{both, and_is, not_is, eq_is, stable}
use Rattle.search.proofs.Search.{any-is}
use Rattle.sets.specs.Set.{has, below}
use Rattle.sets.proofs.Algebra.{full_is}
use Rattle.relations.specs.Relation.{Plus}
use Rattle.dependencies.specs.History.{SO, write_read, PrefixStep, SnapshotStep, Holds, Closed, ReadYourWrites, MonotonicWrites, WriteFollowsReads, UpdateAtomic, ConsistentPrefix, SnapshotIsolation, Serialisable}
use Rattle.store.specs.Store.{Key, CommitNumber, View, Store, count, version, next_number, Commit}
use Rattle.store.specs.Update.{writes}
use Rattle.store.specs.Links.{wrote, somewhere, holds}
use Rattle.store.specs.History.{Wrote, Read, history, held}
use Rattle.store.specs.View.{IsView}
use Rattle.store.specs.Sound.{SoundStore}
use Rattle.store.proofs.Missing.{somewhere-is}
use Rattle.store.proofs.Links.{holds-means}
use Rattle.growth.specs.Made.{Writer}
use Rattle.growth.specs.Links.{FromWrite}
use Rattle.growth.specs.Sessions.{UpTo, ReadUpTo}
use Rattle.growth.specs.Views.{Lacking, Full}
use Rattle.growth.proofs.Views.{held-writer}
use Rattle.growth.specs.Clauses.{LeadsToHeld, LacksOneOf}

module _ (s : Store) (u : View) (v : IsView s u) where
  -- a version is held where its writer is not lacking
  held-unless-lacking : (a k i : ℕ) → Wrote s a k i → ¬ Lacking s u a → T (has (u k) i)
  held-unless-lacking a k i w n = stable (has (u k) i) (λ x. n ((k, (i, w)), λ h. x ((held-writer s u v a k i w).1 h)))

  -- a commit with a version that is held is not lacking
  not-lacking : (a k i : ℕ) → Wrote s a k i → T (has (u k) i) → ¬ Lacking s u a
  not-lacking a k i w h x = x.1 (k, i, h, w)

  -- what wants all versions by certain commits passes exactly where none of these is lacking
  all-of-is : (W : CommitNumber → Type 0) → ((a : CommitNumber) → W a → (k i : ℕ) → Wrote s a k i → T (has (u k) i)) ↔ (¬ LacksOneOf s u W)
  all-of-is W = (
    λ f (a, x, ((k, (i, w)), n)). not-lacking a k i w (f a x k i w) ((k, (i, w)), n),
    λ none a x k i w. held-unless-lacking a k i w (λ y. none (a, x, y)),
  )

  -- clause 2, of any commit t of the store
  pub read-your-writes-is : (t : CommitNumber) → ReadYourWrites (history s) (held u) t ↔ (¬ LacksOneOf s u (UpTo (history s) t))
  read-your-writes-is t = both (split, joined) (all-of-is (UpTo (history s) t))
    where
      AllUpTo : Type 0
      AllUpTo = (a : CommitNumber) → UpTo (history s) t a → (k i : ℕ) → Wrote s a k i → T (has (u k) i)

      split : ReadYourWrites (history s) (held u) t → AllUpTo
      split f a (inl e) k i w = f.0 k i (subst (λ (b : ℕ). Wrote s b k i) e w)
      split f a (inr o) k i w = f.1 a o k i w

      joined : AllUpTo → ReadYourWrites (history s) (held u) t
      joined f = (λ k i w. f t (inl refl) k i w, λ a o k i w. f a (inr o) k i w)

  -- clauses 3, 6 and 7
  pub closed_is : (R : ℕ → ℕ → Type 0) → Closed R (history s) (held u) ↔ (¬ LacksOneOf s u (LeadsToHeld s u R))
  closed_is R = let w = all-of-is (LeadsToHeld s u R) in
      (λ f. w.0 (λ a (t, h, r). f a t h r), λ none a t h r. w.1 none a (t, h, r))

  pub monotonic-writes-is : MonotonicWrites (history s) (held u) ↔ (¬ LacksOneOf s u (LeadsToHeld s u (SO (history s))))
  monotonic-writes-is = closed_is (SO (history s))

  pub consistent-prefix-is : ConsistentPrefix (history s) (held u) ↔ (¬ LacksOneOf s u (LeadsToHeld s u (Plus (PrefixStep (history s)))))
  consistent-prefix-is = closed_is (Plus (PrefixStep (history s)))

  pub snapshot-isolation-is : SnapshotIsolation (history s) (held u) ↔ (¬ LacksOneOf s u (LeadsToHeld s u (Plus (SnapshotStep (history s)))))
  snapshot-isolation-is = closed_is (Plus (SnapshotStep (history s)))

  -- where links rise, as in clauses 3 and 4, nothing is lacking if every commit that is held is below every one that is lacking
  pub rising-passes : (R : ℕ → ℕ → Type 0) → ((a t : CommitNumber) → R a t → a < t) → ((a t : CommitNumber) → Holds (history s) (held u) t → Lacking s u a → t < a)
      → ¬ LacksOneOf s u (LeadsToHeld s u R)
  rising-passes R rises all (a, (t, h, r), x) = let l : a < t = rises a t r in let l' : t < a = all a t h x in omega arith

  -- clause 4: what was read up to a commit that is held was written by commits that are held
  pub write-follows-reads-is : WriteFollowsReads (history s) (held u) ↔ (¬ LacksOneOf s u (LeadsToHeld s u (ReadUpTo (history s))))
  write-follows-reads-is = (out, back)
    where
      out : WriteFollowsReads (history s) (held u) → ¬ LacksOneOf s u (LeadsToHeld s u (ReadUpTo (history s)))
      out f (a, (t, h, (r, inl e, write_read {k} {i} w x)), y) = not-lacking a k i w ((f t h).0 k i (subst (λ (z : ℕ). Read s z k i) e x)) y
      out f (a, (t, h, (r, inr o, write_read {k} {i} w x)), y) = not-lacking a k i w ((f t h).1 r k i o x) y

      at : (¬ LacksOneOf s u (LeadsToHeld s u (ReadUpTo (history s)))) → (t : CommitNumber) → Holds (history s) (held u) t
          → (r k i : ℕ) → (r ≡ t) ⊎ SO (history s) r t → Read s r k i → T (has (u k) i)
      at none t h r k i o x =
          let a = (version s k i).writer in
          let w : Wrote s a k i = (x.0, refl) in
          held-unless-lacking a k i w (λ y. none (a, (t, h, (r, o, write_read {k = k} {i = i} w x)), y))

      back : (¬ LacksOneOf s u (LeadsToHeld s u (ReadUpTo (history s)))) → WriteFollowsReads (history s) (held u)
      back none t h = (λ k i x. at none t h t k i (inl refl) x, λ a k i o x. at none t h a k i (inr o) x)

  -- clause 5: the writers of the keys written
  pub update-atomic-is : (c : Commit) → UpdateAtomic (history s) (held u) (λ k. T (writes c k)) ↔ (¬ LacksOneOf s u (FromWrite s c))
  update-atomic-is c = (
    λ f (a, (k, x, (i, w)), y). not-lacking a k i w (f a k i x w) y,
    λ none a k i x w. held-unless-lacking a k i w (λ y. none (a, (k, x, (i, w)), y)),
  )

  -- the same by masks
  pub update-atomic-masks : (c : Commit) → UpdateAtomic (history s) (held u) (λ k. T (writes c k)) ↔ ((k : Key) → T (writes c k) → u k ≡ below (count s k))
  update-atomic-masks c = (
    λ f k x. (full_is (count s k) (u k) (v.exist k)).1 (λ i l. f (version s k i).writer k i x (l, refl)),
    λ f a k i x w. (full_is (count s k) (u k) (v.exist k)).0 (f k x) i w.0,
  )

  -- clause 8: all writers; that is, the view is full
  pub serialisable-is : Serialisable (history s) (held u) ↔ (¬ ((a : CommitNumber) × Lacking s u a))
  serialisable-is = (
    λ f (a, ((k, (i, w)), n)). not-lacking a k i w (f a k i w) ((k, (i, w)), n),
    λ none a k i w. held-unless-lacking a k i w (λ y. none (a, y)),
  )

  pub serialisable-full : Serialisable (history s) (held u) ↔ Full s u
  serialisable-full = (λ f k i l. f (version s k i).writer k i (l, refl), λ f a k i w. f k i w.0)

-- ---- where a clause fails

-- where a test says which commits a clause wants, it fails exactly where one of them is lacking
pub fails-exactly : (s : Store) → SoundStore s → (u : View) {P : Type 0} (W : CommitNumber → Type 0) (wanted : CommitNumber → Bool)
    → ((a : CommitNumber) → T (wanted a) ↔ W a) → P ↔ (¬ LacksOneOf s u W) → (¬ P) ↔ LacksOneOf s u W
fails-exactly s h u W wanted is p = (
  λ n. let y = among.0 (stable (any (next_number s) test) (λ x. n (p.1 (λ (a, w, l). x (among.1 (a, h.writers a l.0.0 l.0.1.0 l.0.1.1, (w, l))))))) in (y.0, y.2.0, y.2.1),
  λ x q. p.0 q x,
)
  where
    test : CommitNumber → Bool
    test a = wanted a && (somewhere s (wrote s a) && not (holds s u a))

    writes-something : (a : CommitNumber) → T (somewhere s (wrote s a)) ↔ Writer (history s) a
    writes-something a = let w = somewhere-is s h (wrote s a) (λ k i. eq_is (version s k i).writer a) in
        (λ t. let (k, i, l, e) = w.0 t in (k, (i, (l, e))), λ (k, (i, (l, e))). w.1 (k, i, l, e))

    among : T (any (next_number s) test) ↔ ((a : CommitNumber) × (a < next_number s) × (W a × Lacking s u a))
    among = any-is (next_number s) test (λ a. and_is (wanted a) _ (is a) (and_is (somewhere s (wrote s a)) _ (writes-something a) (not_is (holds s u a) (holds-means s h u a))))
