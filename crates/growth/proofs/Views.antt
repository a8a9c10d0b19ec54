-- A view as the set of commits of which it holds a version. As it holds all or none of a writer, this set says which versions it holds; and a commit leaves
-- the set of each view as it is, but for itself in a view to which its own versions are added. Assumes nothing.
use mathlib.Core.Path.{◌≡◌, refl, sym, subst}
use mathlib.Core.Logic.{◌⊎◌, inl, inr, ◌↔◌}
use Prim.Native.Nat.{ℕ, ◌≤◌, ◌<◌}
use native.Mathlib.Omega.{arith}
use native.Mathlib.Decide.{dec_lt}
use lib.Dec.{T}
use Rattle.sets.specs.Set.{has, below}
use Rattle.sets.proofs.Laws.{has-none, has-below, below-has}
use Rattle.sets.proofs.Algebra.{full_is}
use Rattle.dependencies.specs.History.{Holds}
use Rattle.store.specs.Store.{Key, VersionNumber, CommitNumber, View, Store, count, version, next_number, Commit}
use Rattle.store.specs.Update.{writes, update}
use Rattle.store.specs.History.{Wrote, history, held}
use Rattle.store.proofs.Updated.{count-update, count-written}
use Rattle.store.specs.View.{IsView, FitsView}
use Rattle.store.specs.Sound.{SoundStore}
use Rattle.growth.specs.Made.{Made, Writer, Writes}
use Rattle.growth.proofs.Made.{wrote_after, writer-after, after}
use Rattle.growth.specs.Ordered.{Ordered}
use Rattle.growth.specs.Views.{Lacking, Full, WithOwn}

-- ---- in one store

module _ (s : Store) (v : View) (w : IsView s v) where
  -- a view holds a version exactly where it holds one by its writer
  pub held-view : (k i : ℕ) → T (has (v k) i) ↔ ((i < count s k) × Holds (history s) (held v) (version s k i).writer)
  held-view k i = (
    λ h. let l = w.exist k i h in (l, (k, i, h, (l, refl))),
    λ (l, (k', i', h, x)). w.whole (version s k i).writer k' i' k i h x (l, refl),
  )

  -- it holds every version by t where it holds one, and else none
  pub held-writer : (t k i : ℕ) → Wrote s t k i → T (has (v k) i) ↔ Holds (history s) (held v) t
  held-writer t k i x = (λ h. (k, i, h, x), λ (k', i', h, y). w.whole t k' i' k i h y x)

  -- a version that the view lacks exists exactly where it lacks a commit
  pub lacks-version : ((k : Key) × (i : VersionNumber) × (i < count s k) × (¬ T (has (v k) i))) ↔ ((t : CommitNumber) × Lacking s v t)
  lacks-version = (
    λ (k, i, l, n). ((version s k i).writer, ((k, (i, (l, refl))), λ h. n ((held-view k i).1 (l, h)))),
    λ (t, ((k, (i, x)), n)). (k, i, x.0, λ h. n (k, i, h, x)),
  )

-- a full view holds exactly the writers of the store
pub full-holds : (s : Store) (v : View) → Full s v → (t : CommitNumber) → Holds (history s) (held v) t ↔ Writer (history s) t
full-holds s v f t = (λ (k, i, h, x). (k, (i, x)), λ (k, (i, x)). (k, i, f k i x.0, x))

-- the opening transaction is not lacking, as a view holds version 0 of each key
pub opening-not-lacking : (s : Store) → SoundStore s → Ordered s → (v : View) → IsView s v → ¬ Lacking s v 0
opening-not-lacking s h o v w ((k, (i, x)), n) = let l = h.only-keys k i x.0 in n (k, 0, w.opened k l, o.first-by-opening k l)

-- the masks of a full view
pub full-mask : (s : Store) (v : View) → IsView s v → Full s v ↔ ((k : Key) → v k ≡ below (count s k))
full-mask s v w = (
  λ f k. (full_is (count s k) (v k) (w.exist k)).1 (f k),
  λ e k. (full_is (count s k) (v k) (w.exist k)).0 (e k),
)

-- and such masks are a view
pub full-view : (s : Store) → SoundStore s → (v : View) → FitsView s.keys v → ((k : Key) → k < s.keys → v k ≡ below (count s k)) → IsView s v
full-view s h v f e = record {
  word = f.word;
  beyond = f.beyond;
  opened = λ k l. holds k 0 (h.some-version k l);
  exist = λ k i x. there k i x (dec_lt k s.keys);
  whole = λ t k i l j x y z. holds l j z.0;
}
  where
    holds : (k i : ℕ) → i < count s k → T (has (v k) i)
    holds k i l = subst (λ (x : ℕ). T (has x i)) (sym (e k (h.only-keys k i l))) (has-below (count s k) i l)

    there : (k i : ℕ) → T (has (v k) i) → Dec (k < s.keys) → i < count s k
    there k i x (yes l) = below-has (count s k) i (subst (λ (y : ℕ). T (has y i)) (e k l) x)
    there k i x (no n) = absurd (has-none i (subst (λ (y : ℕ). T (has y i)) (f.beyond k (omega arith)) x))

-- ---- after a commit

-- the view holds the writers up to commit t and no others
abbrev pub HoldsUpTo : Store → View → CommitNumber → Type 0
HoldsUpTo s v t = (a : CommitNumber) → Holds (history s) (held v) a ↔ (Writer (history s) a × (a ≤ t))

-- a full view does so with the last commit
pub full-holds-up-to : (s : Store) → SoundStore s → (v : View) → Full s v → HoldsUpTo s v s.commits
full-holds-up-to s h v f a = (
  λ x. let w = (full-holds s v f a).0 x in let l : a < next_number s = h.writers a w.0 w.1.0 w.1.1 in (w, omega arith),
  λ (w, _). (full-holds s v f a).1 w,
)

module _ (s : Store) (u : View) (c : Commit) (m : Made s u c) (v : View) (w : IsView s v) where
  -- a view of the store before holds the same commits after
  pub holds_kept : (t : CommitNumber) → Holds (after s u c) (held v) t ↔ Holds (history s) (held v) t
  holds_kept t = (λ (k, i, h, x). out k i h ((wrote_after s u c m t k i).0 x), λ (k, i, h, x). (k, i, h, (wrote_after s u c m t k i).1 (inl x)))
    where
      out : (k i : ℕ) → T (has (v k) i) → Wrote s t k i ⊎ ((t ≡ next_number s) × T (writes c k) × (i ≡ count s k)) → Holds (history s) (held v) t
      out k i h (inl x) = (k, i, h, x)
      out k i h (inr (_, _, e)) = let l : i < count s k = w.exist k i h in absurd (omega arith)

  -- so what was full after an earlier commit holds the writers up to that commit
  pub holds-up-to-kept : (t : CommitNumber) → t < next_number s → HoldsUpTo s v t → HoldsUpTo (update s u c) v t
  holds-up-to-kept t l is a = (
    λ x. let y = (is a).0 ((holds_kept a).0 x) in ((writer-after s u c m a).1 (inl y.0), y.1),
    λ (x, q). (holds_kept a).1 ((is a).1 (old q ((writer-after s u c m a).0 x), q)),
  )
    where
      old : a ≤ t → Writer (history s) a ⊎ ((a ≡ next_number s) × Writes c) → Writer (history s) a
      old q (inl x) = x
      old q (inr (e, _)) = absurd (omega arith)

  -- with the commit's own versions it holds the commit too, if that writes something
  pub holds-own : (v' : View) → WithOwn s c v v' → (t : CommitNumber) → Holds (after s u c) (held v') t ↔ (Holds (history s) (held v) t ⊎ ((t ≡ next_number s) × Writes c))
  holds-own v' is t = (λ (k, i, h, x). out k i ((is k i).0 h) ((wrote_after s u c m t k i).0 x), back)
    where
      out : (k i : ℕ) → T (has (v k) i) ⊎ (T (writes c k) × (i ≡ count s k)) → Wrote s t k i ⊎ ((t ≡ next_number s) × T (writes c k) × (i ≡ count s k))
          → Holds (history s) (held v) t ⊎ ((t ≡ next_number s) × Writes c)
      out k i (inl h) (inl x) = inl (k, i, h, x)
      out k i (inr (_, e)) (inl x) = let l : i < count s k = x.0 in absurd (omega arith)
      out k i h (inr (e, y, _)) = inr (e, (k, y))

      back : Holds (history s) (held v) t ⊎ ((t ≡ next_number s) × Writes c) → Holds (after s u c) (held v') t
      back (inl (k, i, h, x)) = (k, i, (is k i).1 (inl h), (wrote_after s u c m t k i).1 (inl x))
      back (inr (e, (k, y))) = (k, count s k, (is k (count s k)).1 (inr (y, refl)), (wrote_after s u c m t k (count s k)).1 (inr (e, y, refl)))

  -- and it is a view of the store after
  pub own_view : (v' : View) → FitsView s.keys v' → WithOwn s c v v' → IsView (update s u c) v'
  unfolding update
  own_view v' f is = record {
    word = f.word;
    beyond = f.beyond;
    opened = λ k l. (is k 0).1 (inl (w.opened k l));
    exist = λ k i h. there k i ((is k i).0 h);
    whole = λ t k i l j h x y. all t k i l j ((is k i).0 h) ((wrote_after s u c m t k i).0 x) ((wrote_after s u c m t l j).0 y);
  }
    where
      there : (k i : ℕ) → T (has (v k) i) ⊎ (T (writes c k) × (i ≡ count s k)) → i < count (update s u c) k
      there k i (inl h) = let l : i < count s k = w.exist k i h in omega (arith, count-update s u c k)
      there k i (inr (y, e)) = omega (arith, count-written s u c k y)

      all : (t k i l j : ℕ) → T (has (v k) i) ⊎ (T (writes c k) × (i ≡ count s k)) → Wrote s t k i ⊎ ((t ≡ next_number s) × T (writes c k) × (i ≡ count s k))
          → Wrote s t l j ⊎ ((t ≡ next_number s) × T (writes c l) × (j ≡ count s l)) → T (has (v' l) j)
      all t k i l j h x (inr (_, y, e)) = (is l j).1 (inr (y, e))
      all t k i l j (inl h) (inl x) (inl y) = (is l j).1 (inl (w.whole t k i l j h x y))
      all t k i l j (inr (_, e)) (inl x) (inl y) = let n : i < count s k = x.0 in absurd (omega arith)
      all t k i l j h (inr (e, _, _)) (inl y) = let n : t < next_number s = m.sound.writers t l j y in absurd (omega arith)
