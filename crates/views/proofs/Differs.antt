-- New masks over a view, which holds all or nothing of a commit. The commits of which the masks hold a version are those of the view and those of which they gained one,
-- without those of which they lost one; and code 11 is due exactly where they did not gain, or lose, all that such a commit wrote. Assumes nothing.
use Rattle.std.proofs.Common.{◌≡◌, ℕ, ◌<◌, T, ◌⊎◌, ◌↔◌, List, sym, refl, ◌∙◌, subst, inl, inr, ⊎_elim, arith}
use mathlib.Core.Option.{none}
use native.Mathlib.Decide.{dec_lt}
use Rattle.search.proofs.Tests.{stable, T?}
use Rattle.sets.specs.Set.{Set, has, union, without}
use Rattle.sets.proofs.Laws.{has-none}
use Rattle.sets.proofs.Algebra.{without_is}
use Rattle.dependencies.specs.History.{Holds}
use Rattle.store.specs.Store.{CommitNumber, View, Store, count, version}
use Rattle.store.specs.Missing.{missing}
use Rattle.store.specs.Refusal.{half_held, whole_writers, bad_mask}
use Rattle.store.specs.History.{Wrote, history, held}
use Rattle.store.specs.Sound.{SoundStore}
use Rattle.store.proofs.Missing.{missing-none}
use Rattle.store.proofs.Misses.{missing-agree}
use Rattle.store.proofs.Links.{holds-means}
use Rattle.growth.proofs.Ordered.{opening-wrote-first}
use Rattle.state.specs.Keeps.{IsSet}
use Rattle.state.proofs.Sets.{is_set-as, is_set-union, is_set-without}
use Rattle.views.specs.Rules.{StoreAndView, by_writer}
use Rattle.views.specs.Parted.{minus, Versions, HoldsOther, Parted}
use Rattle.views.specs.Viewed.{NewMasks}
use Rattle.views.proofs.Tests.{has-as}
use Rattle.views.proofs.Codes.{mask-holds}
use Rattle.views.proofs.Rows.{masks-row}

module _ (s : Store) (old u : View) (n : ℕ) (versions keys masks : List ℕ) (base : ℕ) (seen : Set) (fresh : List ℕ)
    (m : NewMasks s old u n versions keys masks base seen fresh) (good : bad_mask s u ≡ none) where
  abbrev sound : SoundStore s
  sound = m.arrays.sound

  -- the masks hold versions that exist, of keys of the store
  pub key_of : (k i : ℕ) → T (has (u k) i) → k < s.keys
  key_of k i t = go (dec_lt k s.keys)
    where
      go : Dec (k < s.keys) → k < s.keys
      go (yes l) = l
      go (no q) = absurd (has-none i (has-as i (m.fits.beyond k (omega (arith, m.arrays.number))) t))

  pub exist : (k i : ℕ) → T (has (u k) i) → i < count s k
  exist k i t = (mask-holds s u good k (key_of k i t) (m.fits.word k)).1 i t

  -- the arrays keep the store and the new masks
  pub with-fresh : StoreAndView s u n versions keys fresh 0
  with-fresh = record {
    number = m.arrays.number;
    sound = sound;
    few = m.arrays.few;
    in-versions = m.arrays.in-versions;
    in-keys = m.arrays.in-keys;
    in-masks = masks-row m.in-fresh;
  }

  -- ---- what is gained, and what is lost

  abbrev gain : View
  gain = minus u old

  abbrev loss : View
  loss = minus old u

  -- a view of versions that exist, without version 0 of any key, has none by the opening transaction
  versions-of : (d : View) → ((k i : ℕ) → T (has (d k) i) → i < count s k) → ((k : ℕ) → k < s.keys → ¬ T (has (d k) 0)) → Versions s d n versions
  versions-of d there first = record {
    number = m.arrays.number;
    sound = sound;
    few = m.arrays.few;
    in-versions = m.arrays.in-versions;
    exist = there;
    by-commit = λ k i x. go k i x (dec_lt 0 (version s k i).writer);
  }
    where
      go : (k i : ℕ) → T (has (d k) i) → Dec (0 < (version s k i).writer) → 0 < (version s k i).writer
      go k i x (yes l) = l
      go k i x (no q) =
          let b = there k i x in
          let e : i ≡ 0 = opening-wrote-first s sound m.ordered k i (b, (let z : (version s k i).writer ≡ 0 = omega arith in z)) in
          absurd (first k (sound.only-keys k i b) (subst (λ (j : ℕ). T (has (d k) j)) e x))

  pub of-gain : Versions s gain n versions
  of-gain = versions-of gain (λ k i x. exist k i ((without_is (u k) (old k) i).0 x).0) (λ k l x. ((without_is (u k) (old k) 0).0 x).1 (m.view.opened k l))

  pub of-loss : Versions s loss n versions
  of-loss = versions-of loss (λ k i x. m.view.exist k i ((without_is (old k) (u k) i).0 x).0) (λ k l x. ((without_is (old k) (u k) 0).0 x).1 (mask-holds s u good k l (m.fits.word k)).0)

  module _ {all part all' part' : Set} (g : Parted s gain all part) (l : Parted s loss all' part') {half : Set} (e : half ≡ union part part') where
    -- a commit that is held in part
    half-cases : (t : CommitNumber) → T (has half t) ↔ ((Holds (history s) (held gain) t × HoldsOther s gain t) ⊎ (Holds (history s) (held loss) t × HoldsOther s loss t))
    half-cases t = let h = is_set-union part part' g.halves l.halves t in (λ x. h.0 (has-as t e x), λ x. has-as t (sym e) (h.1 x))

    -- a commit of which a version is lost and another is held is held in part
    lost-held : (t : CommitNumber) → Holds (history s) (held loss) t → Holds (history s) (held u) t → T (has half t)
    lost-held t x (k, i, y, w) = (half-cases t).1 (inr (x, (k, i, (λ z. ((without_is (old k) (u k) i).0 z).1 y), w)))

    -- a version that the masks lack is by a commit of which they hold another exactly where it is by one of these
    half_is : (k i : ℕ) → i < count s k → ¬ T (has (u k) i) → T (whole_writers s u k i) ↔ T (by_writer s half k i)
    half_is k i b lacking = (λ x. into ((holds-means s sound u t).0 x) (T? (has (old k) i)), λ x. (holds-means s sound u t).1 (⊎_elim from-gain from-loss ((half-cases t).0 x)))
      where
        t : CommitNumber
        t = (version s k i).writer

        wrote : Wrote s t k i
        wrote = (b, refl)

        into : Holds (history s) (held u) t → Dec (T (has (old k) i)) → T (has half t)
        into x (yes y) = lost-held t (k, i, (without_is (old k) (u k) i).1 (y, lacking), wrote) x
        into (k', i', x, w) (no y) = (half-cases t).1 (inl (
          (k', i', (without_is (u k') (old k') i').1 (x, λ z. y (m.view.whole t k' i' k i z w wrote)), w),
          (k, i, (λ z. lacking ((without_is (u k) (old k) i).0 z).0), wrote),
        ))

        from-gain : Holds (history s) (held gain) t × HoldsOther s gain t → Holds (history s) (held u) t
        from-gain ((k', i', x, w), _) = (k', i', ((without_is (u k') (old k') i').0 x).0, w)

        from-loss : Holds (history s) (held loss) t × HoldsOther s loss t → Holds (history s) (held u) t
        from-loss ((k', i', x, w), (k'', i'', y, z)) =
            let o = m.view.whole t k' i' k'' i'' ((without_is (old k') (u k') i').0 x).0 w z in
            (k'', i'', stable (has (u k'') i'') (λ q. y ((without_is (old k'') (u k'') i'').1 (o, q))), z)

    -- code 11 is the search by these commits
    pub half-same : half_held s u ≡ missing s (by_writer s half) u
    unfolding half_held
    half-same = missing-agree s (whole_writers s u) (by_writer s half) u half_is

    pub none-half : half ≡ 0 → half_held s u ≡ none
    none-half z = half-same ∙ (missing-none s (by_writer s half) u).1 (λ k i _ b t. absurd (has-none (version s k i).writer (has-as (version s k i).writer z t)))

    -- where code 11 is not due, the masks hold nothing of a commit of which they lost a version
    not-both : half_held s u ≡ none → (t : CommitNumber) → Holds (history s) (held loss) t → ¬ Holds (history s) (held u) t
    unfolding half_held
    not-both z t (k, i, x, w) y =
        let o = (without_is (old k) (u k) i).0 x in
        o.1 ((missing-none s (whole_writers s u) u).0 z k i (sound.only-keys k i w.0) w.0 ((holds-means s sound u _).1 (subst (Holds (history s) (held u)) (sym w.1) y)))

    -- and they hold the commits of the view and those that gained, without those that lost
    pub holds-is : half_held s u ≡ none → {both holds : Set} → both ≡ union seen all → holds ≡ without both all' → IsSet holds (Holds (history s) (held u))
    holds-is z {both} {holds} f q =
        rw (q, f) (is_set-as _ (λ t. (λ (x, y). out t x y, λ x. (into t x, λ y. not-both z t y x)))
        (is_set-without (union seen all) all' (is_set-union seen all m.seen-is g.whose) l.whose))
      where
        out : (t : CommitNumber) → Holds (history s) (held old) t ⊎ Holds (history s) (held gain) t → ¬ Holds (history s) (held loss) t → Holds (history s) (held u) t
        out t (inl (k, i, x, w)) y = (k, i, stable (has (u k) i) (λ z. y (k, i, (without_is (old k) (u k) i).1 (x, z), w)), w)
        out t (inr (k, i, x, w)) y = (k, i, ((without_is (u k) (old k) i).0 x).0, w)

        into : (t : CommitNumber) → Holds (history s) (held u) t → Holds (history s) (held old) t ⊎ Holds (history s) (held gain) t
        into t (k, i, x, w) = go (T? (has (old k) i))
          where
            go : Dec (T (has (old k) i)) → Holds (history s) (held old) t ⊎ Holds (history s) (held gain) t
            go (yes y) = inl (k, i, y, w)
            go (no y) = inr (k, i, (without_is (u k) (old k) i).1 (x, y), w)
