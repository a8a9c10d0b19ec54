-- Masks that hold, of each key, all versions up to some: what the code finds of them is what they hold and lack. Assumes nothing.
use Rattle.std.proofs.Common.{◌≡◌, ℕ, ◌+◌, ◌-◌, ◌%◌, ◌^◌, ◌<◌, ◌≤◌, true, T, eqb, List, get_or, sym, refl, ap, ◌∙◌, subst, mod-eq_of_lt, arith, eqb→eq, pow_pos}
use mathlib.Core.Option.{none}
use native.Mathlib.Decide.{dec_lt}
use lib.Bits.{bit_and, and_comm}
use Rattle.search.proofs.Tests.{stable, true-T, same_test}
use Rattle.sets.specs.Set.{Set, has, single, below, without, highest, lowest, width}
use Rattle.sets.proofs.Laws.{has-none, has-large, has-below, below-has, has-lowest, has-highest, highest-most, single-only}
use Rattle.sets.proofs.Algebra.{both_is, subset-is, same-sets}
use Rattle.sets.proofs.Words.{and-pred}
use Rattle.dependencies.specs.History.{Holds}
use Rattle.store.specs.Store.{Key, CommitNumber, View, Store, count, version}
use Rattle.store.specs.Update.{Visible}
use Rattle.store.specs.Refusal.{half_held, whole_writers, bad_mask}
use Rattle.store.specs.History.{Wrote, history, held}
use Rattle.store.proofs.Missing.{missing-none}
use Rattle.store.proofs.Links.{holds-means}
use Rattle.growth.proofs.Ordered.{writes-once}
use Rattle.state.specs.Places.{writers_place}
use Rattle.state.specs.Lookup.{visible_in}
use Rattle.state.specs.Keeps.{IsSet}
use Rattle.state.proofs.Sets.{is_set-as, is_set-without}
use Rattle.views.specs.Viewed.{NewMasks}
use Rattle.views.specs.Prefix.{Downward, Prefixes, Lacks}
use Rattle.views.proofs.Tests.{has-as}
use Rattle.views.proofs.Codes.{mask-holds}
use Rattle.views.proofs.Words.{writer-in-array}
use Rattle.views.proofs.Differs.{exist, key_of}

-- ---- a mask that has no digit in common with the next number

below-downward : (n : ℕ) → Downward (below n)
below-downward n i j t l = has-below n j (let x : i < n = below-has n i t in omega arith)

-- the only number of a set whose rest is empty
alone : (m : ℕ) → 0 < m → m < 2 ^ 64 → without m (single (lowest m)) ≡ 0 → m ≡ single (lowest m)
alone m p l e = same-sets m (single (lowest m)) (λ i. same_test _ _ ((subset-is m (single (lowest m))).0 e i) (λ t. subst (λ (j : ℕ). T (has m j)) (sym (single-only (lowest m) i t)) (has-lowest m p l)))

pub downward : (m : ℕ) → m < 2 ^ 64 → bit_and m ((m + 1) % 2 ^ 64) ≡ 0 → Downward m
downward m l e = go (dec_lt (m + 1) (2 ^ 64))
  where
    go : Dec (m + 1 < 2 ^ 64) → Downward m
    go (yes x) =
        let z : bit_and (m + 1) (m + 1 - 1) ≡ 0 = ap (bit_and (m + 1)) (let y : m + 1 - 1 ≡ m = omega arith in y) ∙ and_comm (m + 1) m ∙ ap (bit_and m) (sym (mod-eq_of_lt x)) ∙ e in
        let y : m + 1 ≡ single (lowest (m + 1)) = alone (m + 1) (omega arith) x (sym (and-pred (m + 1) (omega arith) x) ∙ z) in
        let q : m ≡ below (lowest (m + 1)) = omega arith in
        subst (λ (y : ℕ). Downward y) (sym q) (below-downward (lowest (m + 1)))
    go (no x) = let q : m ≡ below width = omega arith in subst (λ (y : ℕ). Downward y) (sym q) (below-downward width)

-- ---- the masks passed by a loop

pub no_gaps : (m : ℕ) → eqb m 0 ≡ true → m ≡ 0
no_gaps m e = eqb→eq m 0 (true-T _ e)

-- ---- the writers of one key

module _ (s : Store) (old u : View) (n : ℕ) (versions keys masks : List ℕ) (base : ℕ) (seen : Set) (fresh : List ℕ)
    (m : NewMasks s old u n versions keys masks base seen fresh) (good : bad_mask s u ≡ none) where
  -- for proofs alone: t wrote a version of key k that the masks hold; that they lack
  abbrev pub HeldAt : Key → CommitNumber → Type 0
  HeldAt k t = (i : ℕ) × T (has (u k) i) × Wrote s t k i

  abbrev pub LackedAt : Key → CommitNumber → Type 0
  LackedAt k t = (i : ℕ) × (¬ T (has (u k) i)) × Wrote s t k i

  module _ (p : Prefixes fresh n) (k : Key) (l : k < n) {v : Visible} (e : v ≡ visible_in versions (get_or fresh k 0) k) where
    abbrev w : CommitNumber
    w = v.writer

    mask : get_or fresh k 0 ≡ u k
    mask = m.in-fresh.masks k l

    below-keys : k < s.keys
    below-keys = omega (arith, m.arrays.number)

    top-held : T (has (u k) (highest (u k)))
    top-held = has-highest (u k) (let x : 2 ^ 0 ≤ u k = has-large (u k) 0 (mask-holds s u good k below-keys (m.fits.word k)).0 in omega (arith, pow_pos 0)) (m.fits.word k)

    top-there : highest (u k) < count s k
    top-there = exist s old u n versions keys masks base seen fresh m good k (highest (u k)) top-held

    top-wrote : Wrote s w k (highest (u k))
    top-wrote = (top-there, sym (ap (λ (x : Visible). x.writer) e ∙ ap (λ (x : Set). (visible_in versions x k).writer) mask ∙ writer-in-array s old n versions keys masks base m.arrays k (highest (u k)) top-there))

    held_low : (t i : ℕ) → Wrote s t k i → T (has (u k) i) → t < w + 1
    held_low t i x h = go (dec_lt i (highest (u k)))
      where
        most : i ≤ highest (u k)
        most = highest-most (u k) (let y : 2 ^ i ≤ u k = has-large (u k) i h in omega (arith, pow_pos i)) (m.fits.word k) i h

        go : Dec (i < highest (u k)) → t < w + 1
        go (yes y) = let z : t < w = m.ordered.writers-rise t w k i (highest (u k)) x top-wrote y in omega arith
        go (no y) =
            let q : i ≡ highest (u k) = omega (arith, most) in
            let z : t ≡ w = sym x.1 ∙ ap (λ (j : ℕ). (version s k j).writer) q ∙ top-wrote.1 in omega arith

    lacked-high : (t i : ℕ) → Wrote s t k i → ¬ T (has (u k) i) → ¬ (t < w + 1)
    lacked-high t i x h y = go (dec_lt (highest (u k)) i)
      where
        go : Dec (highest (u k) < i) → ⊥
        go (yes z) = let q : w < t = m.ordered.writers-rise w t k (highest (u k)) i top-wrote x z in omega arith
        go (no z) = h (has-as i mask (p k l (highest (u k)) i (has-as (highest (u k)) (sym mask) top-held) (omega arith)))

    module _ {f later : Set} (a : f ≡ below (w + 1)) (b : later ≡ without (get_or keys (writers_place k) 0) f) where
      pub later-is : IsSet later (LackedAt k)
      later-is = subst (λ (x : ℕ). IsSet x (LackedAt k)) (sym (b ∙ ap (without (get_or keys (writers_place k) 0)) a))
          (is_set-as _ (λ t. (λ ((i, x), y). (i, (λ h. y (held_low t i x h)), x), λ (i, h, x). ((i, x), lacked-high t i x h)))
          (is_set-without (get_or keys (writers_place k) 0) (below (w + 1)) (m.arrays.in-keys.writers k below-keys) (λ t. (below-has (w + 1) t, has-below (w + 1) t))))

      pub held-is : {h : Set} → h ≡ without (get_or keys (writers_place k) 0) later → IsSet h (HeldAt k)
      held-is {h} c = subst (λ (x : ℕ). IsSet x (HeldAt k)) (sym c)
          (is_set-as _ (λ t. (λ ((i, x), y). (i, stable (has (u k) i) (λ z. y (i, z, x)), x), λ (i, z, x). ((i, x), λ (j, y, q). y (subst (λ (o : ℕ). T (has (u k) o)) (writes-once s m.arrays.sound m.ordered t k i j x q) z))))
          (is_set-without (get_or keys (writers_place k) 0) later (m.arrays.in-keys.writers k below-keys) later-is))

  -- ---- all keys together

  pub held_all : (h : Set) → IsSet h (λ t. (k : Key) × (k < n) × HeldAt k t) → IsSet h (Holds (history s) (held u))
  held_all h = is_set-as h (λ t. (λ (k, _, (i, x, y)). (k, i, x, y), λ (k, i, x, y). (k, (let z : k < s.keys = key_of s old u n versions keys masks base seen fresh m good k i x in omega (arith, m.arrays.number)), (i, x, y))))

  pub lacked-all : (h : Set) → IsSet h (λ t. (k : Key) × (k < n) × LackedAt k t) → IsSet h (Lacks s u)
  lacked-all h = is_set-as h (λ t. (λ (k, _, x). (k, x), λ (k, (i, x, y)). (k, (let z : k < s.keys = m.arrays.sound.only-keys k i y.0 in omega (arith, m.arrays.number)), (i, x, y))))

  -- code 11 is not due where no commit is in both
  pub apart-not-half : (h f : Set) → IsSet h (Holds (history s) (held u)) → IsSet f (Lacks s u) → bit_and h f ≡ 0 → half_held s u ≡ none
  unfolding half_held
  apart-not-half h f a b e = (missing-none s (whole_writers s u) u).1 (λ k i l c t. stable (has (u k) i) (λ z.
      let w = (version s k i).writer in
      has-none w (has-as w e ((both_is h f w).1 ((a w).1 ((holds-means s m.arrays.sound u w).0 t), (b w).1 (k, (i, z, (c, refl))))))))
