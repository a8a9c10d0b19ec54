-- A record is refused with none of codes 9 to 14 exactly where the store takes it. Assumes nothing.
use mathlib.Core.Path.{◌≡◌, refl, sym, ◌∙◌, subst}
use mathlib.Core.Bool.{◌&&◌, ◌||◌, not}
use mathlib.Core.Logic.{◌⊎◌, inl, inr, ◌↔◌}
use mathlib.Core.Option.{Option, some, none}
use Prim.Native.Nat.{ℕ, ◌≤◌, ◌<◌}
use native.Mathlib.Omega.{arith}
use native.Mathlib.Decide.{dec_lt, ℕ_discrete}
use lib.Dec.{T, eqb, ltb, leb, T_not, not_T}
use Rattle.search.specs.Search.{any}
use Rattle.search.proofs.Tests.{same, both, and_is, or_is, not_is, eq_is, lt-is, le_is, stable, map-none, when-none, first_some-none, is_some-some, or_left, or_right, or_cases}
use Rattle.search.proofs.Search.{any-is, least-none}
use Rattle.sets.specs.Set.{has, width}
use Rattle.sets.proofs.Laws.{has-none, has-lt}
use Rattle.store.specs.Store.{Key, VersionNumber, CommitNumber, Client, Value, View, Store, Configuration, count, version, next_number, read, Commit, shift, commit}
use Rattle.store.specs.Update.{value_of, reads, writes, touches, Visible, newest_visible, update, view_before, store_after}
use Rattle.store.specs.Links.{wrote, has_read, stored, holds}
use Rattle.store.specs.Refusal.{not_above, old_number, differs, wrong_at, wrong_read, bad_mask_at, bad_mask, whole_writers, half_held, all_of, lost, stray_at, stray, refuses_event}
use Rattle.store.specs.History.{Wrote, Appears, InLog}
use Rattle.store.specs.View.{IsView, FitsView}
use Rattle.store.specs.Sound.{SoundStore, Sound, WithinKeys}
use Rattle.store.specs.Legal.{LegalShift, LegalCommit}
use Rattle.store.proofs.Sound.{sound-update}
use Rattle.store.proofs.Missing.{missing-none, somewhere-is}

module _ (s : Store) (h : SoundStore s) where
  pub stored_is : (t : CommitNumber) → T (stored s t) ↔ Appears s t
  unfolding stored
  stored_is t = somewhere-is s h (λ k i. wrote s t k i || has_read s t k i) (λ k i. or_is (wrote s t k i) (has_read s t k i) (eq_is _ t) same)

  -- the view holds a version by t
  pub holds-is : (u : View) (t : CommitNumber) → T (holds s u t) ↔ ((k : Key) × (i : VersionNumber) × (i < count s k) × (T (has (u k) i) × ((version s k i).writer ≡ t)))
  unfolding holds
  holds-is u t = somewhere-is s h (λ k i. has (u k) i && wrote s t k i) (λ k i. and_is (has (u k) i) (wrote s t k i) same (eq_is _ t))

  -- a commit in the store has a number below the next
  pub appears-lt : (t : CommitNumber) → Appears s t → t < next_number s
  appears-lt t (k, i, l, inl e) = h.writers t k i (l, e)
  appears-lt t (k, i, l, inr r) = h.readers t k i (l, r)

  -- ---- a view: codes 10 and 11

  module _ (u : View) (f : FitsView s.keys u) where
    abbrev Masks : Type 0
    Masks = (k : Key) → k < s.keys → T (has (u k) 0) × ((i : ℕ) → T (has (u k) i) → i < count s k)

    masks-is : (bad_mask s u ≡ none) ↔ Masks
    unfolding bad_mask
    masks-is = (
      λ e k l. let n = (least-none s.keys (bad_mask_at s u)).0 e k l in (
        stable (has (u k) 0) (λ x. n (or_left (not (has (u k) 0)) _ (not_T (has (u k) 0) x))),
        λ i b. go k i b n (dec_lt i (count s k)),
      ),
      λ m. (least-none s.keys (bad_mask_at s u)).1 (λ k l t. bad k (m k l) (or_cases (not (has (u k) 0)) _ t)),
    )
      where
        outside : (k : Key) → T (any width (λ i. has (u k) i && leb (count s k) i)) ↔ ((i : ℕ) × (i < 64) × (T (has (u k) i) × (count s k ≤ i)))
        outside k = any-is width (λ i. has (u k) i && leb (count s k) i) (λ i. and_is (has (u k) i) (leb (count s k) i) same (le_is (count s k) i))

        go : (k i : ℕ) → T (has (u k) i) → ¬ T (bad_mask_at s u k) → Dec (i < count s k) → i < count s k
        go k i b n (yes l) = l
        go k i b n (no m) = absurd (n (or_right (not (has (u k) 0)) _ ((outside k).1 (i, has-lt 64 (u k) i (f.word k) b, (b, omega arith)))))

        bad : (k : Key) → T (has (u k) 0) × ((i : ℕ) → T (has (u k) i) → i < count s k) → T (not (has (u k) 0)) ⊎ T (any width (λ i. has (u k) i && leb (count s k) i)) → ⊥
        bad k m (inl x) = T_not (has (u k) 0) x m.0
        bad k m (inr x) = let y = (outside k).0 x in let l : y.0 < count s k = m.1 y.0 y.2.0 in let g : count s k ≤ y.0 = y.2.1 in omega arith

    abbrev Whole : Type 0
    Whole = (t k i l j : ℕ) → T (has (u k) i) → Wrote s t k i → Wrote s t l j → T (has (u l) j)

    whole_is : (half_held s u ≡ none) ↔ Whole
    unfolding half_held
    whole_is =
        let m = missing-none s (whole_writers s u) u in (
          λ e t k i l j b w v. m.0 e l j (h.only-keys l j v.0) v.0 ((holds-is u (version s l j).writer).1 (k, i, w.0, (b, w.1 ∙ sym v.1))),
          λ f'. m.1 (λ l j _ q x. let y = (holds-is u (version s l j).writer).0 x in f' (version s l j).writer y.0 y.1 l j y.3.0 (y.2, y.3.1) (q, refl)),
        )

    -- codes 10 and 11 are not due exactly where it is a view
    pub view-is : ((bad_mask s u ≡ none) × (half_held s u ≡ none)) ↔ IsView s u
    view-is = (
      λ (a, b). record {
        word = f.word;
        beyond = f.beyond;
        opened = λ k l. (masks-is.0 a k l).0;
        exist = λ k i x. (masks-is.0 a k (inside k i x (dec_lt k s.keys))).1 i x;
        whole = whole_is.0 b;
      },
      λ v. (masks-is.1 (λ k l. (v.opened k l, v.exist k)), whole_is.1 v.whole),
    )
      where
        inside : (k i : ℕ) → T (has (u k) i) → Dec (k < s.keys) → k < s.keys
        inside k i x (yes l) = l
        inside k i x (no n) =
            let z : T (has 0 i) = subst (λ (m : ℕ). T (has m i)) (f.beyond k (omega arith)) x in
            absurd (has-none i z)

-- ---- a shift

pub legal-shift : (n : ℕ) (g : Configuration) (d : Client) (u : View) → Sound g → FitsView g.store.keys u
    → (refuses_event n g (shift d u) ≡ none) ↔ LegalShift g d u
unfolding refuses_event lost
legal-shift n g d u h f =
    both (first_some-none _) (
      λ (a, (b, (c, _))). record {
        view = (view-is g.store h.store u f).0 ((map-none _ _).0 a, (map-none _ _).0 b);
        grows = λ k i x. let l = (h.views d).exist k i x in lost-is.0 ((map-none _ _).0 c) k i (h.store.only-keys k i l) l x;
      },
      λ l. let v = (view-is g.store h.store u f).1 l.view in
          ((map-none _ _).1 v.0, ((map-none _ _).1 v.1, ((map-none _ _).1 (lost-is.1 (λ k i _ _ x. l.grows k i x)), tt))),
    )
  where
    lost-is : (lost g.store (g.views d) u ≡ none) ↔ ((k i : ℕ) → k < g.store.keys → i < count g.store k → T (has (g.views d k) i) → T (has (u k) i))
    lost-is = missing-none g.store (all_of (g.views d)) u

-- ---- a commit

differs-some : (x : Value) (v : Visible) → (¬ T (differs (some x) v)) ↔ (x ≡ v.value)
unfolding differs
differs-some x v = (
  λ n. (eq_is x v.value).0 (stable (eqb x v.value) (λ m. n (not_T (eqb x v.value) m))),
  λ e t. T_not (eqb x v.value) t ((eq_is x v.value).1 e),
)

differs_none : (v : Visible) → ¬ T (differs none v)
unfolding differs
differs_none v t = t

module _ (g : Configuration) (c : Commit) (h : Sound g) (f : WithinKeys g.store.keys c) where
  abbrev pub s : Store
  s = g.store

  abbrev pub u : View
  u = view_before g c

  abbrev pub Newer : Type 0
  Newer = (t : CommitNumber) → InLog s c.client t → s.session_of t < c.session

  pub newer-is : (¬ T (old_number s c)) ↔ Newer
  unfolding old_number
  newer-is = (
    λ n t x. go t x n (dec_lt (s.session_of t) c.session),
    λ w x. let y = old.0 x in let l : s.session_of y.0 < c.session = w y.0 (y.2.0, y.1, y.2.1.0) in let q : c.session ≤ s.session_of y.0 = y.2.1.1 in omega arith,
  )
    where
      old : T (any (next_number s) (not_above s c)) ↔ ((t : CommitNumber) × (t < next_number s) × ((0 < t) × ((s.client_of t ≡ c.client) × (c.session ≤ s.session_of t))))
      old = any-is (next_number s) (not_above s c) (λ t.
          and_is (ltb 0 t) (eqb (s.client_of t) c.client && leb c.session (s.session_of t)) (lt-is 0 t)
          (and_is (eqb (s.client_of t) c.client) (leb c.session (s.session_of t)) (eq_is _ _) (le_is _ _)))

      go : (t : CommitNumber) → InLog s c.client t → ¬ T (any (next_number s) (not_above s c)) → Dec (s.session_of t < c.session) → s.session_of t < c.session
      go t x n (yes l) = l
      go t (p, l, e) n (no m) = absurd (n (old.1 (t, l, (p, (e, omega arith)))))

  abbrev Values : Type 0
  Values = (k x : ℕ) → value_of read c.operations k ≡ some x → x ≡ (newest_visible s u k).value

  values-is : (wrong_read s u c ≡ none) ↔ Values
  unfolding wrong_read
  values-is = both (map-none _ _) (both (least-none s.keys (wrong_at s u c)) (right, all))
    where
      right : ((k : ℕ) → k < s.keys → ¬ T (wrong_at s u c k)) → Values
      right n k x e = (differs-some x (newest_visible s u k)).0
          (subst (λ (o : Option Value). ¬ T (differs o (newest_visible s u k))) e (n k (f.read-keys k (is_some-some _ x e))))

      all : Values → (k : ℕ) → k < s.keys → ¬ T (wrong_at s u c k)
      all w k l = go (value_of read c.operations k) refl
        where
          go : (o : Option Value) → value_of read c.operations k ≡ o → ¬ T (differs o (newest_visible s u k))
          go none e = differs_none (newest_visible s u k)
          go (some x) e = (differs-some x (newest_visible s u k)).1 (w k x e)

  abbrev Still : Type 0
  Still = (k : Key) → ¬ T (reads c k) → ¬ T (writes c k) → c.view_after k ≡ u k

  still-is : (stray s u c ≡ none) ↔ Still
  unfolding stray
  still-is = both (least-none s.keys (stray_at u c)) (kept, all)
    where
      test : (k : Key) → T (stray_at u c k) ↔ ((¬ (T (reads c k) ⊎ T (writes c k))) × (¬ (c.view_after k ≡ u k)))
      test k = and_is (not (touches c k)) (not (eqb (c.view_after k) (u k))) (not_is (touches c k) (or_is (reads c k) (writes c k) same same)) (not_is (eqb (c.view_after k) (u k)) (eq_is _ _))

      neither : (k : Key) → ¬ T (reads c k) → ¬ T (writes c k) → T (reads c k) ⊎ T (writes c k) → ⊥
      neither k nr nw (inl x) = nr x
      neither k nr nw (inr x) = nw x

      kept : ((k : ℕ) → k < s.keys → ¬ T (stray_at u c k)) → Still
      kept n k nr nw = go (dec_lt k s.keys) (ℕ_discrete (c.view_after k) (u k))
        where
          go : Dec (k < s.keys) → Dec (c.view_after k ≡ u k) → c.view_after k ≡ u k
          go x (yes e) = e
          go (yes l) (no m) = absurd (n k l ((test k).1 (neither k nr nw, m)))
          go (no l) (no m) = f.after.beyond k (omega arith) ∙ sym ((h.views c.client).beyond k (omega arith))

      all : Still → (k : ℕ) → k < s.keys → ¬ T (stray_at u c k)
      all w k l t = let x = (test k).0 t in x.1 (w k (λ r. x.0 (inl r)) (λ r. x.0 (inr r)))

  sound-after : SoundStore (store_after g c)
  sound-after = sound-update s u c h.store f.read-keys f.write-keys

  fits_after : FitsView (store_after g c).keys c.view_after
  unfolding update
  fits_after = f.after

  pub legal-commit : (n : ℕ) → (refuses_event n g (commit c) ≡ none) ↔ LegalCommit g c
  unfolding refuses_event
  legal-commit n =
      both (first_some-none _) (
        λ (a, (b, (d, (e, (i, _))))). record {
          newer = newer-is.0 ((when-none _ _).0 a);
          values = values-is.0 ((map-none _ _).0 b);
          view = (view-is (store_after g c) sound-after c.view_after fits_after).0 ((map-none _ _).0 d, (map-none _ _).0 e);
          still = still-is.0 ((map-none _ _).0 i);
        },
        λ l.
            let v = (view-is (store_after g c) sound-after c.view_after fits_after).1 l.view in (
              (when-none _ _).1 (newer-is.1 l.newer),
              (
                (map-none _ _).1 (values-is.1 l.values),
                (
                  (map-none _ _).1 v.0,
                  (
                    (map-none _ _).1 v.1,
                    ((map-none _ _).1 (still-is.1 l.still), tt),
                  ),
                ),
              ),
            ),
      )
