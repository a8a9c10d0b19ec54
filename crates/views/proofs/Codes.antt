-- Codes 10 and 14 key by key: what the masks say of a key, and the least key. Assumes nothing.
use Rattle.std.proofs.Common.{◌≡◌, ℕ, ◌+◌, ◌*◌, ◌^◌, ◌<◌, ◌≤◌, Bool, true, false, not, ◌&&◌, ◌||◌, T, eqb, leb, ◌≢◌, ◌⊎◌, ◌↔◌, List, sym, refl, ◌∙◌, inl, inr, arith, T_not, eq-eqb, ne_eqb}
use mathlib.Core.Option.{some, none}
use native.Mathlib.Decide.{dec_le, dec_lt}
use lib.Dec.{not_T}
use Rattle.search.specs.Search.{any, least}
use Rattle.search.proofs.Tests.{stable, same, and_is, le_is, or_left, or_right, or_cases}
use Rattle.search.proofs.Search.{any-is, least-none, least-found}
use Rattle.sets.specs.Set.{has, below, lowest, without, width}
use Rattle.sets.proofs.Laws.{has-lt, has-below, below-has, has-lowest}
use Rattle.sets.proofs.Algebra.{without_is, subset-is, without-word}
use Rattle.store.specs.Store.{Key, View, Store, count, Commit}
use Rattle.store.specs.Refusal.{bad_mask_at, bad_mask, stray_at, stray}
use Rattle.state.specs.Keeps.{KeepsOperations}
use Rattle.state.proofs.Ranks.{reads-rank, writes-rank}
use Rattle.views.specs.Strays.{strays}
use Rattle.views.proofs.Tests.{taken, left, has-as}

-- ---- the least key

module _ (n : ℕ) (keys : ℕ) (f : ℕ → Bool) (e : keys ≡ n) where
  -- the first key that passes
  least_at : (k : Key) → k < n → T (f k) → ((l : Key) → l < k → ¬ T (f l)) → some k ≡ least keys f
  least_at k l t h = sym (rw e (least-found n f k l t h))

  -- none of the keys passes
  least-nowhere : ((l : Key) → l < n → ¬ T (f l)) → none ≡ least keys f
  least-nowhere h = sym (rw e ((least-none n f).1 h))

-- ---- code 10

module _ (s : Store) (u : View) (k : Key) where
  outside : T (any width (λ i. has (u k) i && leb (count s k) i)) ↔ ((i : ℕ) × (i < width) × (T (has (u k) i) × (count s k ≤ i)))
  outside = any-is width (λ i. has (u k) i && leb (count s k) i) (λ i. and_is (has (u k) i) (leb (count s k) i) same (le_is (count s k) i))

  -- a mask without version 0
  pub lacks-first : {mask : ℕ} → mask ≡ u k → ¬ T (has mask 0) → T (bad_mask_at s u k)
  lacks-first e n = or_left (not (has (u k) 0)) _ (not_T (has (u k) 0) (rw e at n))

  -- a mask with a version that does not exist
  pub holds-other : {mask full : ℕ} → mask ≡ u k → full ≡ below (count s k) → mask < 2 ^ 64 → without mask full ≢ 0 → T (bad_mask_at s u k)
  holds-other {mask} {full} e f l n =
      let m = without mask full in
      let p : 0 < m = omega arith in
      let w = (without_is mask full (lowest m)).0 (has-lowest m p (without-word mask full l)) in
      or_right (not (has (u k) 0)) _ (outside.1 (lowest m, has-lt width mask (lowest m) l w.0, (has-as (lowest m) e w.0, beyond (lowest m) w.1 (dec_le (count s k) (lowest m)))))
    where
      beyond : (i : ℕ) → ¬ T (has full i) → Dec (count s k ≤ i) → count s k ≤ i
      beyond i h (yes x) = x
      beyond i h (no x) = absurd (h (rw f (has-below (count s k) i (omega arith))))

  -- any other mask
  pub good-mask : {mask full : ℕ} → mask ≡ u k → full ≡ below (count s k) → T (has mask 0) → without mask full ≡ 0 → ¬ T (bad_mask_at s u k)
  good-mask {mask} {full} e f h z t = go (or_cases (not (has (u k) 0)) _ t)
    where
      go : T (not (has (u k) 0)) ⊎ T (any width (λ i. has (u k) i && leb (count s k) i)) → ⊥
      go (inl x) = T_not (has (u k) 0) x (rw e at h)
      go (inr x) =
          let y = outside.0 x in
          let l : y.0 < count s k = below-has (count s k) y.0 (rw f at ((subset-is mask full).0 z y.0 (rw e y.2.0))) in
          let g : count s k ≤ y.0 = y.2.1 in
          omega arith

  -- what a good mask holds
  not-bad : u k < 2 ^ 64 → ¬ T (bad_mask_at s u k) → T (has (u k) 0) × ((i : ℕ) → T (has (u k) i) → i < count s k)
  not-bad w n = (stable (has (u k) 0) (λ x. n (lacks-first refl x)), λ i b. go i b (dec_lt i (count s k)))
    where
      go : (i : ℕ) → T (has (u k) i) → Dec (i < count s k) → i < count s k
      go i b (yes l) = l
      go i b (no m) = absurd (n (or_right (not (has (u k) 0)) _ (outside.1 (i, has-lt width (u k) i w b, (b, omega arith)))))

pub mask-holds : (s : Store) (u : View) → bad_mask s u ≡ none → (k : Key) → k < s.keys → u k < 2 ^ 64 → T (has (u k) 0) × ((i : ℕ) → T (has (u k) i) → i < count s k)
unfolding bad_mask
mask-holds s u e k l w = not-bad s u k w ((least-none s.keys (bad_mask_at s u)).0 e k l)

module _ (s : Store) (u : View) (n : ℕ) (e : s.keys ≡ n) where
  pub bad-at : (k : Key) → k < n → T (bad_mask_at s u k) → ((l : Key) → l < k → ¬ T (bad_mask_at s u l)) → some k ≡ bad_mask s u
  unfolding bad_mask
  bad-at = least_at n s.keys (bad_mask_at s u) e

  pub bad-nowhere : ((l : Key) → l < n → ¬ T (bad_mask_at s u l)) → none ≡ bad_mask s u
  unfolding bad_mask
  bad-nowhere = least-nowhere n s.keys (bad_mask_at s u) e

-- ---- code 14

module _ (mask view ranks k : ℕ) where
  -- the test in the code's order
  pub strays-same : mask ≡ view → false ≡ strays mask view ranks k
  unfolding strays
  strays-same e = go (has ranks (2 * k) || has ranks (2 * k + 1)) (eq-eqb mask view e)
    where
      go : (a : Bool) {b : Bool} → b ≡ true → false ≡ (not a && not b)
      go true e = refl
      go false e = rw e

  pub strays-read : {r : Bool} → r ≡ true → r ≡ has ranks (2 * k) → false ≡ strays mask view ranks k
  unfolding strays
  strays-read t q = rw (← q, t)

  pub strays-written : {w : Bool} → w ≡ true → w ≡ has ranks (2 * k + 1) → false ≡ strays mask view ranks k
  unfolding strays
  strays-written t q = rw (← q, t) (go (has ranks (2 * k)))
    where
      go : (a : Bool) → false ≡ (not (a || true) && not (eqb mask view))
      go true = refl
      go false = refl

  pub strays-unread : {r w : Bool} → mask ≢ view → r ≡ false → r ≡ has ranks (2 * k) → w ≡ has ranks (2 * k + 1) → not w ≡ strays mask view ranks k
  unfolding strays
  strays-unread {w = w} n t q p = rw (← q, t, ← p, ne_eqb mask view n) (go w)
    where
      go : (b : Bool) → not b ≡ (not b && true)
      go true = refl
      go false = refl

module _ (c : Commit) (ranks : ℕ) (values : List ℕ) (h : KeepsOperations c ranks values) (k : Key) where
  module _ (old : View) {mask view : ℕ} (e : mask ≡ c.view_after k) (f : view ≡ old k) where
    stray-is : stray_at old c k ≡ strays mask view ranks k
    unfolding strays
    stray-is = rw (reads-rank h k, writes-rank h k, ← e, ← f)

    pub stray-yes : {r : Bool} → r ≡ true → r ≡ strays mask view ranks k → T (stray_at old c k)
    stray-yes t q = taken t (q ∙ sym stray-is)

    pub stray-no : {r : Bool} → r ≡ false → r ≡ strays mask view ranks k → ¬ T (stray_at old c k)
    stray-no t q = left t (q ∙ sym stray-is)

module _ (s : Store) (old : View) (c : Commit) (n : ℕ) (e : s.keys ≡ n) where
  pub stray-at : (k : Key) → k < n → T (stray_at old c k) → ((l : Key) → l < k → ¬ T (stray_at old c l)) → some k ≡ stray s old c
  unfolding stray
  stray-at = least_at n s.keys (stray_at old c) e

  pub stray-nowhere : ((l : Key) → l < n → ¬ T (stray_at old c l)) → none ≡ stray s old c
  unfolding stray
  stray-nowhere = least-nowhere n s.keys (stray_at old c) e
