-- What holds of every store and view that a taken trace makes, from the opening on. Assumes nothing.
use mathlib.Core.Path.{◌≡◌, refl, sym, ap, ◌∙◌, subst}
use mathlib.Core.Bool.{Bool, true, false}
use mathlib.Core.Logic.{◌⊎◌, inl, inr, ◌≢◌}
use mathlib.Core.List.{List, [], ◌∷◌}
use Prim.Native.Nat.{ℕ, zero, suc, ◌^◌, ◌≤◌, ◌<◌}
use native.Mathlib.Omega.{arith}
use native.Mathlib.Decide.{ℕ_discrete}
use lib.Dec.{T, ltb, lt→ltb, ltb→lt, lit<}
use lib.ListN.{length, get_or}
use Rattle.search.specs.Choose.{choose}
use Rattle.search.proofs.Tests.{T?}
use Rattle.sets.specs.Set.{has}
use Rattle.sets.proofs.Laws.{has-none, has-lt}
use Rattle.store.specs.Store.{Key, Client, Version, opening_version, View, Store, Configuration, opening_store, opening, count, next_number, Commit, shift, commit}
use Rattle.store.specs.Update.{reads, writes, newest, at_number, update, view_before, store_after, step}
use Rattle.store.specs.History.{Wrote, Read}
use Rattle.store.proofs.Updated.{at_same, at_other, count-update, wrote-update, read-update, untouched}
use Rattle.store.specs.View.{IsView}
use Rattle.store.specs.Sound.{SoundStore, Sound, WithinKeys}

-- ---- the opening

opening-count : (b : Bool) → length (choose b (opening_version ∷ []) []) ≤ 1
unfolding choose
opening-count true = omega arith
opening-count false = omega arith

pub opening-first : (b : Bool) (i : ℕ) → i < length (choose b (opening_version ∷ []) []) → T b × (get_or (choose b (opening_version ∷ []) []) i opening_version ≡ opening_version)
unfolding choose
opening-first true zero l = (tt, refl)
opening-first true (suc i) l = absurd (omega arith)
opening-first false i l = absurd (omega arith)

pub opening-mask : (b : Bool) (i : ℕ) → T (has (choose b 1 0) i) → T b × (i < 1)
unfolding choose
opening-mask true i h = (tt, has-lt 1 1 i (lit< tt) h)
opening-mask false i h = absurd (has-none i h)

pub opening-word : (b : Bool) → choose b 1 0 < 2 ^ 64
unfolding choose
opening-word true = lit< tt
opening-word false = lit< tt

opening-some : (b : Bool) → T b → 0 < length (choose b (opening_version ∷ []) [])
unfolding choose
opening-some true t = lit< tt
opening-some false t = absurd t

pub opening-zeroth : (b : Bool) → T b → T (has (choose b 1 0) 0)
unfolding choose
opening-zeroth true t = tt
opening-zeroth false t = absurd t

pub opening-beyond : (k keys : ℕ) → keys ≤ k → ◌≡◌ {A = ℕ} (choose (ltb k keys) 1 0) 0
unfolding choose
opening-beyond k keys l = go (ltb k keys) refl
  where
    go : (b : Bool) → ltb k keys ≡ b → ◌≡◌ {A = ℕ} (choose b 1 0) 0
    go true e = let h : k < keys = ltb→lt k keys (subst T (sym e) tt) in absurd (omega arith)
    go false e = refl

-- nobody has read a version yet
pub opening-unread : (keys t k i : ℕ) → ¬ Read (opening_store keys) t k i
unfolding opening_store
opening-unread keys t k i r = has-none t (subst (λ (v : Version). T (has v.readers t)) (opening-first (ltb k keys) i r.0).1 r.1)

pub sound-opening : (keys : ℕ) → Sound (opening keys)
unfolding opening opening_store
sound-opening keys = record {
  store = record {
    writers = λ t k i w. let e : 0 ≡ t = ap (λ (v : Version). v.writer) (sym (opening-first (ltb k keys) i w.0).1) ∙ w.1 in omega arith;
    readers = λ t k i r. absurd (opening-unread keys t k i r);
    some-version = λ k l. opening-some (ltb k keys) (lt→ltb k keys l);
    few = λ k. opening-count (ltb k keys);
    only-keys = λ k i l. ltb→lt k keys (opening-first (ltb k keys) i l).0;
  };
  views = λ d. record {
    word = λ k. opening-word (ltb k keys);
    beyond = λ k l. opening-beyond k keys l;
    opened = λ k l. opening-zeroth (ltb k keys) (lt→ltb k keys l);
    exist = λ k i h. let m = opening-mask (ltb k keys) i h in let n : i < 1 = m.1 in let p : 0 < length (choose (ltb k keys) (opening_version ∷ []) []) = opening-some (ltb k keys) m.0 in omega arith;
    whole = λ t k i l j h w v.
        let b = opening-first (ltb l keys) j v.0 in
        let c = opening-count (ltb l keys) in
        let z : j ≡ 0 = let m : j < length (choose (ltb l keys) (opening_version ∷ []) []) = v.0 in omega arith in
        subst (λ (x : ℕ). T (has (choose (ltb l keys) 1 0) x)) (sym z) (opening-zeroth (ltb l keys) b.0);
  };
}

-- ---- a shift

pub sound-shift : (g : Configuration) (d : Client) (u : View) → Sound g → IsView g.store u → Sound (step g (shift d u))
unfolding step
sound-shift g d u h v = record { store = h.store; views = λ e. go e (ℕ_discrete e d) }
  where
    go : (e : Client) → Dec (e ≡ d) → IsView g.store (at_number d u g.views e)
    go e (yes q) = subst (IsView g.store) (sym (ap (at_number d u g.views) q ∙ at_same d u g.views)) v
    go e (no n) = subst (IsView g.store) (sym (at_other d u g.views e n)) (h.views e)

-- ---- a commit

module _ (s : Store) (u : View) (c : Commit) (h : SoundStore s) where
  -- what an older commit wrote or read was there before
  pub wrote-old : (t k i : ℕ) → Wrote (update s u c) t k i → t ≢ next_number s → Wrote s t k i
  wrote-old t k i w n = go (wrote-update s u c t k i w)
    where
      go : Wrote s t k i ⊎ ((t ≡ next_number s) × T (writes c k) × (i ≡ count s k)) → Wrote s t k i
      go (inl x) = x
      go (inr x) = absurd (n x.0)

  pub read-old : (t k i : ℕ) → Read (update s u c) t k i → t ≢ next_number s → Read s t k i
  read-old t k i r n = go (read-update s u c t k i r)
    where
      go : Read s t k i ⊎ ((t ≡ next_number s) × T (reads c k) × (i ≡ newest u k)) → Read s t k i
      go (inl x) = x
      go (inr x) = absurd (n x.0)

  -- a version that was there keeps its writer
  wrote_kept : (t k i : ℕ) → i < count s k → Wrote (update s u c) t k i → Wrote s t k i
  wrote_kept t k i l w = go (wrote-update s u c t k i w)
    where
      go : Wrote s t k i ⊎ ((t ≡ next_number s) × T (writes c k) × (i ≡ count s k)) → Wrote s t k i
      go (inl x) = x
      go (inr x) = let e : i ≡ count s k = x.2 in absurd (omega arith)

  -- a view of the store is a view of the store after the commit
  pub view-of-grown-store : (v : View) → IsView s v → IsView (update s u c) v
  unfolding update
  view-of-grown-store v w = record {
    word = w.word;
    beyond = w.beyond;
    opened = w.opened;
    exist = λ k i b. let l : i < count s k = w.exist k i b in omega (arith, (count-update s u c k).0);
    whole = λ t k i l j b x y.
        let o : Wrote s t k i = wrote_kept t k i (w.exist k i b) x in
        let n : t < next_number s = h.writers t k i o in
        w.whole t k i l j b o (wrote-old t l j y (omega arith));
  }

  pub sound-update : ((k : Key) → T (reads c k) → k < s.keys) → ((k : Key) → T (writes c k) → k < s.keys) → SoundStore (update s u c)
  unfolding update
  sound-update rk wk = record {
    writers = λ t k i w. writer t k i (wrote-update s u c t k i w);
    readers = λ t k i r. reader t k i (read-update s u c t k i r);
    some-version = λ k l. omega (arith, h.some-version k l, count-update s u c k);
    few = λ k. omega (arith, h.few k, count-update s u c k);
    only-keys = λ k i l. key k i l (T? (reads c k)) (T? (writes c k));
  }
    where
      writer : (t k i : ℕ) → Wrote s t k i ⊎ ((t ≡ next_number s) × T (writes c k) × (i ≡ count s k)) → t < suc (next_number s)
      writer t k i (inl w) = let l : t < next_number s = h.writers t k i w in omega arith
      writer t k i (inr (e, _, _)) = omega arith

      reader : (t k i : ℕ) → Read s t k i ⊎ ((t ≡ next_number s) × T (reads c k) × (i ≡ newest u k)) → t < suc (next_number s)
      reader t k i (inl r) = let l : t < next_number s = h.readers t k i r in omega arith
      reader t k i (inr (e, _, _)) = omega arith

      key : (k i : ℕ) → i < count (update s u c) k → Dec (T (reads c k)) → Dec (T (writes c k)) → k < s.keys
      key k i l (yes r) w = rk k r
      key k i l (no n) (yes w) = wk k w
      key k i l (no n) (no m) = h.only-keys k i (subst (λ (vs : List Version). i < length vs) (untouched s u c k n m) l)

pub sound-commit : (g : Configuration) (c : Commit) → Sound g → WithinKeys g.store.keys c → IsView (store_after g c) c.view_after → Sound (step g (commit c))
unfolding step
sound-commit g c h f v = record {
  store = sound-update g.store (view_before g c) c h.store f.read-keys f.write-keys;
  views = λ e. go e (ℕ_discrete e c.client);
}
  where
    go : (e : Client) → Dec (e ≡ c.client) → IsView (store_after g c) (at_number c.client c.view_after g.views e)
    go e (yes q) = subst (IsView (store_after g c)) (sym (ap (at_number c.client c.view_after g.views) q ∙ at_same c.client c.view_after g.views)) v
    go e (no n) = subst (IsView (store_after g c)) (sym (at_other c.client c.view_after g.views e n)) (view-of-grown-store g.store (view_before g c) c h.store (g.views e) (h.views e))
