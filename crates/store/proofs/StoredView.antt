-- The views in the store (02, E8): each is a view of the store as it was before its commit. A view of a store is, of every later store,
-- a view of it as it was, and nothing else is. Assumes nothing.
use Prim.Native.Nat.{ℕ, ◌≤◌, ◌<◌}
use native.Mathlib.Omega.{arith}
use mathlib.Core.Path.{◌≡◌, refl, sym, ◌∙◌, subst}
use mathlib.Core.Logic.{◌↔◌}
use mathlib.Core.List.{List}
use native.Mathlib.Decide.{ℕ_discrete}
use Rattle.search.proofs.Tests.{both}
use Rattle.store.specs.Store.{CommitNumber, View, Store, Configuration, opening_store, opening, count, version, next_number, Commit, Event}
use Rattle.store.specs.Update.{at_number, update, view_before, store_after, step, final}
use Rattle.store.specs.View.{IsView}
use Rattle.store.specs.Sound.{SoundStore, Sound}
use Rattle.store.proofs.Updated.{at_same, at_other, count-update, wrote-stays}
use Rattle.store.proofs.Sound.{sound-opening, wrote-old}
use Rattle.store.proofs.Run.{LegalRun, done, shifts, commits, sound-shifts, sound-commits, Each, each-any, run-keeps}
use Rattle.store.specs.StoredView.{ViewBefore, StoredViews}

-- before the next commit: every view of the store, and nothing else
pub view-now : (s : Store) (u : View) → SoundStore s → ViewBefore s (next_number s) u ↔ IsView s u
view-now s u h = (
  λ v. record {
    word = v.word;
    beyond = v.beyond;
    opened = v.opened;
    exist = λ k i b. (v.exist k i b).0;
    whole = λ t k i l j b w w'. v.whole k i l j b w'.0 (w'.1 ∙ sym w.1);
  },
  λ v. record {
    word = v.word;
    beyond = v.beyond;
    opened = v.opened;
    exist = λ k i b. let l = v.exist k i b in (l, h.writers (version s k i).writer k i (l, refl));
    whole = λ k i l j b n e. v.whole (version s k i).writer k i l j b (v.exist k i b, refl) (n, e);
  },
)

module _ (s : Store) (u : View) (c : Commit) (h : SoundStore s) where
  pub writer-kept : (k i : ℕ) → i < count s k → (version (update s u c) k i).writer ≡ (version s k i).writer
  writer-kept k i l = (wrote-stays s u c (version s k i).writer k i (l, refl)).1

  -- a version by a commit before the next was there
  was-there : (k i : ℕ) → i < count (update s u c) k → (version (update s u c) k i).writer < next_number s → i < count s k
  was-there k i l b = (wrote-old s u c h (version (update s u c) k i).writer k i (l, refl) (λ e. absurd (omega arith))).0

  -- a later commit changes nothing of it
  pub view-later : (v : View) (b : CommitNumber) → b ≤ next_number s → ViewBefore s b v ↔ ViewBefore (update s u c) b v
  unfolding update
  view-later v b m = (
    λ w. record {
      word = w.word;
      beyond = w.beyond;
      opened = w.opened;
      exist = λ k i x. let y = w.exist k i x in (omega (arith, (count-update s u c k).0, y.0), subst (λ (a : ℕ). a < b) (sym (writer-kept k i y.0)) y.1);
      whole = λ k i l j x n e.
          let y = w.exist k i x in
          let q = e ∙ writer-kept k i y.0 in
          let n' = was-there l j n (omega (arith, q, y.1)) in
          w.whole k i l j x n' (sym (writer-kept l j n') ∙ q);
    },
    λ w. record {
      word = w.word;
      beyond = w.beyond;
      opened = w.opened;
      exist = λ k i x. let y = w.exist k i x in let l = was-there k i y.0 (omega (arith, y.1)) in (l, subst (λ (a : ℕ). a < b) (writer-kept k i l) y.1);
      whole = λ k i l j x n e.
          let y = w.exist k i x in
          let i-there = was-there k i y.0 (omega (arith, y.1)) in
          w.whole k i l j x (omega (arith, (count-update s u c l).0)) (writer-kept l j n ∙ e ∙ sym (writer-kept k i i-there));
    },
  )

-- ---- along a run

-- a view of a store as it was is one of every later store, and the other way round
pub view-final : (v : View) (b : CommitNumber) {g : Configuration} {es : List Event} → Sound g → LegalRun g es → b ≤ next_number g.store
    → ViewBefore g.store b v ↔ ViewBefore (final g es).store b v
unfolding final step update
view-final v b h done m = (λ x. x, λ x. x)
view-final v b h (shifts f l r) m = view-final v b (sound-shifts h l) r m
view-final v b h (commits {g = g} {c = c} f l r) m =
    both (view-later g.store (view_before g c) c h.store v b m) (view-final v b (sound-commits h f l) r (omega arith))

-- so what is said of the last store is exactly that it was a view when the commit was made
pub before-exactly : {g : Configuration} {es : List Event} → Sound g → LegalRun g es
    → Each (λ g' c. (v : View) → ViewBefore (final g es).store (next_number g'.store) v ↔ IsView g'.store v) g es
unfolding final
before-exactly h done = tt
before-exactly h (shifts f l r) = before-exactly (sound-shifts h l) r
before-exactly {g} h (commits {c = c} {es = es} f l r) = (
  λ v.
      let now = view-now g.store v h.store in
      let later = view-final v (next_number g.store) h (commits {c = c} {es = es} f l r) (omega arith) in
      (λ x. now.0 (later.1 x), λ x. later.0 (now.1 x)),
  before-exactly (sound-commits h f l) r,
)

stored-opening : (keys : ℕ) → StoredViews (opening_store keys)
unfolding opening_store
stored-opening keys b p m = absurd (omega arith)

stored-commit : (g : Configuration) (c : Commit) → Sound g → StoredViews g.store → StoredViews (store_after g c)
unfolding update
stored-commit g c h i b p m = go (ℕ_discrete b (next_number s))
  where
    s : Store
    s = g.store

    u : View
    u = view_before g c

    go : Dec (b ≡ next_number s) → ViewBefore (update s u c) b (at_number (next_number s) u s.view_of b)
    go (yes e) =
        subst (λ (x : ℕ). ViewBefore (update s u c) x (at_number (next_number s) u s.view_of x)) (sym e)
        (subst (ViewBefore (update s u c) (next_number s)) (sym (at_same (next_number s) u s.view_of))
        ((view-later s u c h.store u (next_number s) (omega arith)).0 ((view-now s u h.store).1 (h.views c.client))))
    go (no n) =
        let m' : b ≤ s.commits = omega arith in
        subst (ViewBefore (update s u c) b) (sym (at_other (next_number s) u s.view_of b n))
        ((view-later s u c h.store (s.view_of b) b (omega arith)).0 (i b p m'))

-- "what holds of stored views must hold of these": along every legal run from the opening
pub stored-views : (keys : ℕ) {es : List Event} → LegalRun (opening keys) es → StoredViews (final (opening keys) es).store
unfolding opening step
stored-views keys {es} r =
    run-keeps (λ g c. Unit {0}) (λ g. StoredViews g.store) (λ g d u _ _ i. i) (λ g c h _ _ _ i. stored-commit g c h i)
    (sound-opening keys) r (each-any (opening keys) es) (stored-opening keys)
