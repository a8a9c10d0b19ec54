-- A view after a commit that is the view before and the commit's own versions: clause 1 misses nothing of it, codes 10, 11 and 14 are not due,
-- and it holds the commits that were held and, where it writes something, the commit. Assumes nothing.
use Rattle.std.proofs.Common.{◌≡◌, ℕ, not, T, eqb, ◌⊎◌, ◌↔◌, sym, refl, inl, inr}
use mathlib.Core.Option.{none}
use Rattle.search.proofs.Tests.{both, same, and_is, or_is, not_is, eq_is}
use Rattle.sets.specs.Set.{Set, has, union}
use Rattle.dependencies.specs.History.{Holds}
use Rattle.store.specs.Store.{Key, View, Store, count, next_number, Commit}
use Rattle.store.specs.Update.{reads, writes, touches, update}
use Rattle.store.specs.Missing.{missing}
use Rattle.store.specs.Refusal.{all_of, bad_mask, half_held, stray_at, stray}
use Rattle.store.specs.View.{FitsView}
use Rattle.store.proofs.Missing.{missing-none}
use Rattle.store.proofs.Legal.{view-is}
use Rattle.store.specs.History.{history, held}
use Rattle.growth.specs.Made.{Made, Writes}
use Rattle.growth.proofs.Made.{keys-after, sound-after}
use Rattle.growth.proofs.Views.{holds-own, own_view}
use Rattle.state.specs.Keeps.{IsSet}
use Rattle.state.proofs.Sets.{is_set-as, is_set-union}
use Rattle.views.specs.Own.{AddsOwn}
use Rattle.views.proofs.AddsOwn.{equal-sets}
use Rattle.views.proofs.Codes.{stray-nowhere}

-- clause 1
pub own-lost-none : (s : Store) (u : View) (c : Commit) → AddsOwn s u c → none ≡ missing s (all_of u) c.view_after
own-lost-none s u c own = sym ((missing-none s (all_of u) c.view_after).1 (λ k i _ _ t. (own k i).1 (inl t)))

module _ (s : Store) (u : View) (c : Commit) (made : Made s u c) (own : AddsOwn s u c) where
  -- codes 10 and 11
  fits_after : FitsView (update s u c).keys c.view_after
  fits_after = rw (keys-after s u c made) made.fits.after

  pub own-good : (bad_mask (update s u c) c.view_after ≡ none) × (half_held (update s u c) c.view_after ≡ none)
  own-good = (view-is (update s u c) (sound-after s u c made) c.view_after fits_after).1 (own_view s u c made u made.view c.view_after made.fits.after own)

  -- code 14: a key without operation keeps its mask
  unwritten-same : (k : Key) → ¬ T (writes c k) → c.view_after k ≡ u k
  unwritten-same k n = equal-sets _ _ (λ i. both (own k i) (out i, inl))
    where
      out : (i : ℕ) → T (has (u k) i) ⊎ (T (writes c k) × (i ≡ count s k)) → T (has (u k) i)
      out i (inl t) = t
      out i (inr (w, _)) = absurd (n w)

  pub own-not-stray : stray s u c ≡ none
  own-not-stray = sym (stray-nowhere s u c s.keys refl (λ k _ t. let x = (test k).0 t in x.1 (unwritten-same k (λ w. x.0 (inr w)))))
    where
      test : (k : Key) → T (stray_at u c k) ↔ ((¬ (T (reads c k) ⊎ T (writes c k))) × (¬ (c.view_after k ≡ u k)))
      test k = and_is (not (touches c k)) (not (eqb (c.view_after k) (u k))) (not_is (touches c k) (or_is (reads c k) (writes c k) same same)) (not_is (eqb (c.view_after k) (u k)) (eq_is _ _))

  -- the commits that it holds
  pub own-holds : (seen mine : Set) → IsSet seen (Holds (history s) (held u)) → IsSet mine (λ t. (t ≡ next_number s) × Writes c)
      → IsSet (union seen mine) (Holds (history (update s u c)) (held c.view_after))
  own-holds seen mine old new =
      is_set-as _ (λ t. let h = holds-own s u c made u made.view c.view_after own t in (h.1, h.0)) (is_set-union seen mine old new)
