-- Masks that are those of the view before a commit and the versions that the commit wrote. Assumes nothing.
use Rattle.std.proofs.Common.{◌≡◌, ℕ, ◌+◌, ◌<◌, ◌≤◌, T, eqb, ◌⊎◌, ◌↔◌, List, get_or, sym, refl, ◌∙◌, subst, inl, inr, ⊎_elim, arith}
use native.Mathlib.Decide.{dec_lt}
use Rattle.search.proofs.Tests.{both, eq_is, T?, T_true, T_false}
use Rattle.sets.specs.Set.{Set, has, union}
use Rattle.sets.proofs.Laws.{has-none}
use Rattle.sets.proofs.Algebra.{same-sets}
use Rattle.store.specs.Limits.{numbers}
use Rattle.store.specs.Store.{Key, View, Store, count, next_number, Commit}
use Rattle.store.specs.Update.{writes, update}
use Rattle.store.proofs.Updated.{wrote-update-is}
use Rattle.growth.specs.Made.{Made}
use Rattle.growth.proofs.Made.{keys-after}
use Rattle.state.specs.Places.{owned_place}
use Rattle.state.specs.Keeps.{IsSet, KeepsVersions, KeepsMasks}
use Rattle.state.specs.Rows.{RowAt}
use Rattle.state.proofs.Sets.{is_set-as, is_set-union}
use Rattle.views.specs.Own.{AddsOwn}
use Rattle.views.proofs.Tests.{has-as}

-- ---- the test in words

-- for proofs alone: at each key below n the mask is the one at `base` with what the row has
pub record OwnBelow (fresh views : List ℕ) (base : ℕ) (versions : List ℕ) (row n : ℕ) : Type 0 where
  pub each : (k : Key) → k < n → get_or fresh k 0 ≡ union (get_or views (base + k) 0) (get_or versions (row + k) 0)

-- ---- what it says of the store

-- words that hold the same numbers
pub equal-sets : (a b : Set) → ((i : ℕ) → T (has a i) ↔ T (has b i)) → a ≡ b
equal-sets a b h = same-sets a b (λ i. go i (T? (has b i)))
  where
    go : (i : ℕ) → Dec (T (has b i)) → has a i ≡ has b i
    go i (yes t) = T_true _ ((h i).1 t) ∙ sym (T_true _ t)
    go i (no n) = T_false _ (λ t. n ((h i).0 t)) ∙ sym (T_false _ n)

module _ (s : Store) (u : View) (c : Commit) (made : Made s u c) (n : ℕ) (number : s.keys ≡ n) (fresh views : List ℕ) (base : ℕ) (versions : List ℕ) (few : next_number s < numbers)
    (in-versions : KeepsVersions (update s u c) versions) (in-masks : RowAt n views base u) (in-fresh : KeepsMasks n c.view_after fresh) where
  abbrev row : ℕ
  row = owned_place (next_number s) 0

  -- what the commit wrote of a key
  own_row : (k : Key) → k < n → IsSet (get_or versions (row + k) 0) (λ i. T (writes c k) × (i ≡ count s k))
  own_row k l =
      subst (λ (j : ℕ). IsSet (get_or versions j 0) (λ i. T (writes c k) × (i ≡ count s k))) (let e : owned_place (next_number s) k ≡ row + k = omega arith in e)
      (is_set-as _ (λ i. both (wrote-update-is s u c (next_number s) k i) (⊎_elim (λ w. absurd (let x : next_number s < next_number s = made.sound.writers _ k i w in omega arith)) (λ (_, w, e). (w, e)), λ (w, e). inr (refl, w, e)))
      (in-versions.owned (next_number s) (omega arith) few k (omega (arith, keys-after s u c made))))

  -- what the commit makes of one key
  abbrev OwnAt : Key → Type 0
  OwnAt k = (i : ℕ) → T (has (c.view_after k) i) ↔ (T (has (u k) i) ⊎ (T (writes c k) × (i ≡ count s k)))

  own_at : (k : Key) → k < n → (get_or fresh k 0 ≡ union (get_or views (base + k) 0) (get_or versions (row + k) 0)) ↔ OwnAt k
  own_at k l = (
    λ e. subst (λ (m : Set). IsSet m Own) (sym e ∙ in-fresh.masks k l) grown,
    λ h. equal-sets _ _ (λ i. both (both (rw (in-fresh.masks k l) (λ x. x, λ x. x)) (h i)) ((grown i).1, (grown i).0)),
  )
    where
      Own : ℕ → Type 0
      Own i = T (has (u k) i) ⊎ (T (writes c k) × (i ≡ count s k))

      grown : IsSet (union (get_or views (base + k) 0) (get_or versions (row + k) 0)) Own
      grown = is_set-union _ _ (λ i. (has-as i (in-masks k l), has-as i (sym (in-masks k l)))) (own_row k l)

  -- beyond the keys there are no masks and no writes
  own-beyond : (k : Key) → n ≤ k → OwnAt k
  own-beyond k l i = (
    λ x. absurd (has-none i (has-as i (made.fits.after.beyond k (omega arith)) x)),
    none,
  )
    where
      none : T (has (u k) i) ⊎ (T (writes c k) × (i ≡ count s k)) → T (has (c.view_after k) i)
      none (inl x) = absurd (has-none i (has-as i (made.view.beyond k (omega arith)) x))
      none (inr (w, _)) = let b : k < s.keys = made.fits.write-keys k w in absurd (omega arith)

  adds-own-is : OwnBelow fresh views base versions row n ↔ AddsOwn s u c
  adds-own-is = (λ h k. go h k (dec_lt k n), λ h. record { each = λ k l. (own_at k l).1 (h k) })
    where
      go : OwnBelow fresh views base versions row n → (k : Key) → Dec (k < n) → OwnAt k
      go h k (yes l) = (own_at k l).0 (h.each k l)
      go h k (no x) = own-beyond k (omega arith)

  -- the test, made at all keys, answers whether the view after is the view before and the commit's own versions
  pub adds-own-answer : {all place : ℕ} → (all ≡ 0) ↔ OwnBelow fresh views base versions place n → place ≡ row → T (eqb all 0) ↔ AddsOwn s u c
  adds-own-answer {all} h e = both (eq_is all 0) (both (subst (λ (q : ℕ). (all ≡ 0) ↔ OwnBelow fresh views base versions q n) e h) adds-own-is)
