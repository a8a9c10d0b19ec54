-- How the steps of clauses 6 and 7 grow by a commit, once for any first link D that may be followed by RW: a step after the commit was there before, or ends
-- at the new commit, or passes it on the way to a later writer of a key that it reads. Assumes nothing.
use mathlib.Core.Path.{◌≡◌, refl}
use mathlib.Core.Logic.{◌⊎◌, inl, inr, ◌↔◌, ◌≢◌}
use Prim.Native.Nat.{ℕ, ◌<◌}
use native.Mathlib.Omega.{arith}
use lib.Dec.{T}
use Rattle.search.proofs.Tests.{both}
use Rattle.relations.specs.Relation.{ThenMaybe, alone, followed}
use Rattle.relations.proofs.Closure.{Below}
use Rattle.dependencies.specs.History.{History, as-reader, SO, WR, WW, RW, read-write, PlainLink, by-SO, by-WR, by-WW, PrefixStep, SnapshotStep}
use Rattle.dependencies.proofs.Bounds.{SO-below, WR-below, plain-below, prefix-below, snapshot-below}
use Rattle.store.specs.Store.{Key, CommitNumber, View, Store, next_number, Commit}
use Rattle.store.specs.Update.{reads, writes}
use Rattle.store.specs.History.{history}
use Rattle.store.proofs.Links.{stored-below}
use Rattle.growth.specs.Made.{Made, ReaderOf}
use Rattle.growth.proofs.Made.{reader-of-after, stored-not-new, after}
use Rattle.growth.specs.Links.{FromSession, FromRead, FromWrite, FromReader, ToLater}
use Rattle.growth.proofs.Links.{from-reader-stored, to-later-stored, SO-after, WR-after, WW-after, RW-after}

-- ---- links that grow: D before the commit t, D' after it; E holds of the commits from which D' leads to t

abbrev pub Grows : CommitNumber → (ℕ → ℕ → Type 0) → (ℕ → ℕ → Type 0) → (ℕ → Type 0) → Type 0
Grows t D D' E = (a b : CommitNumber) → D' a b ↔ (D a b ⊎ ((b ≡ t) × E a))

-- links of either kind grow by what either gains
pub either-grows : (t : CommitNumber) (D D' Q Q' : ℕ → ℕ → Type 0) (E F : ℕ → Type 0) → Grows t D D' E → Grows t Q Q' F
    → Grows t (λ a b. D a b ⊎ Q a b) (λ a b. D' a b ⊎ Q' a b) (λ a. E a ⊎ F a)
either-grows t D D' Q Q' E F d q a b = (out, back)
  where
    first : D a b ⊎ ((b ≡ t) × E a) → (D a b ⊎ Q a b) ⊎ ((b ≡ t) × (E a ⊎ F a))
    first (inl x) = inl (inl x)
    first (inr (e, x)) = inr (e, inl x)

    second : Q a b ⊎ ((b ≡ t) × F a) → (D a b ⊎ Q a b) ⊎ ((b ≡ t) × (E a ⊎ F a))
    second (inl x) = inl (inr x)
    second (inr (e, x)) = inr (e, inr x)

    out : D' a b ⊎ Q' a b → (D a b ⊎ Q a b) ⊎ ((b ≡ t) × (E a ⊎ F a))
    out (inl x) = first ((d a b).0 x)
    out (inr x) = second ((q a b).0 x)

    back : (D a b ⊎ Q a b) ⊎ ((b ≡ t) × (E a ⊎ F a)) → D' a b ⊎ Q' a b
    back (inl (inl x)) = inl ((d a b).1 (inl x))
    back (inl (inr x)) = inr ((q a b).1 (inl x))
    back (inr (e, inl x)) = inl ((d a b).1 (inr (e, x)))
    back (inr (e, inr x)) = inr ((q a b).1 (inr (e, x)))

-- ---- what RW brings

-- D leads from a to a reader of key k
abbrev pub LeadsTo : (ℕ → ℕ → Type 0) → History → Key → CommitNumber → Type 0
LeadsTo D H k a = (r : CommitNumber) × D a r × ReaderOf H k r

-- D leads from a to a reader of a key that the commit writes
abbrev pub Brought : Store → Commit → (ℕ → ℕ → Type 0) → CommitNumber → Type 0
Brought s c D a = (r : CommitNumber) × D a r × FromReader s c r

-- the same by keys
pub brought-by-keys : (s : Store) (c : Commit) (D : ℕ → ℕ → Type 0) (a : CommitNumber) → Brought s c D a ↔ ((k : Key) × T (writes c k) × LeadsTo D (history s) k a)
brought-by-keys s c D a = (λ (r, d, (k, w, x)). (k, w, (r, d, x)), λ (k, w, (r, d, x)). (r, d, (k, w, x)))

-- a step that was not there before the commit: D may be followed by RW; `Into` holds of the commits from which a link alone leads to
-- the new commit, and `Through` of those from which D does
abbrev pub NewStep : Store → View → Commit → (ℕ → ℕ → Type 0) → (ℕ → Type 0) → (ℕ → Type 0) → CommitNumber → CommitNumber → Type 0
NewStep s u c D Into Through a b = ((b ≡ next_number s) × (Into a ⊎ Brought s c D a)) ⊎ (ToLater s u c b × Through a)

-- ---- the first links and sources of clauses 6 and 7

-- clause 6: "SO;RW? or WR;RW? or WW"
abbrev pub SessionOrRead : History → ℕ → ℕ → Type 0
SessionOrRead H a b = SO H a b ⊎ WR H a b

abbrev pub SessionOrReadSource : Store → View → Commit → CommitNumber → Type 0
SessionOrReadSource s u c a = FromSession s c a ⊎ FromRead s u c a

-- clause 7: "SO;RW? or WR;RW? or WW;RW?"
abbrev pub PlainSource : Store → View → Commit → CommitNumber → Type 0
PlainSource s u c a = SessionOrReadSource s u c a ⊎ FromWrite s c a

plain-link-is : (H : History) (a b : CommitNumber) → PlainLink H a b ↔ (SessionOrRead H a b ⊎ WW H a b)
plain-link-is H a b = (out, back)
  where
    out : PlainLink H a b → SessionOrRead H a b ⊎ WW H a b
    out (by-SO d) = inl (inl d)
    out (by-WR d) = inl (inr d)
    out (by-WW d) = inr d

    back : SessionOrRead H a b ⊎ WW H a b → PlainLink H a b
    back (inl (inl d)) = by-SO d
    back (inl (inr d)) = by-WR d
    back (inr d) = by-WW d

prefix-step-is : (H : History) (a b : CommitNumber) → PrefixStep H a b ↔ (ThenMaybe (SessionOrRead H) (RW H) a b ⊎ WW H a b)
prefix-step-is H a b = (out, back)
  where
    out : PrefixStep H a b → ThenMaybe (SessionOrRead H) (RW H) a b ⊎ WW H a b
    out (inl (alone d)) = inl (alone (inl d))
    out (inl (followed d r)) = inl (followed (inl d) r)
    out (inr (inl (alone d))) = inl (alone (inr d))
    out (inr (inl (followed d r))) = inl (followed (inr d) r)
    out (inr (inr w)) = inr w

    back : ThenMaybe (SessionOrRead H) (RW H) a b ⊎ WW H a b → PrefixStep H a b
    back (inl (alone (inl d))) = inl (alone d)
    back (inl (alone (inr d))) = inr (inl (alone d))
    back (inl (followed (inl d) r)) = inl (followed d r)
    back (inl (followed (inr d) r)) = inr (inl (followed d r))
    back (inr w) = inr (inr w)

module _ (s : Store) (u : View) (c : Commit) (m : Made s u c) where
  -- ---- any first link

  module _ (D D' : ℕ → ℕ → Type 0) (E : ℕ → Type 0) (below : Below (next_number s) D) (grows : Grows (next_number s) D D' E) where
    first-not-new : {a b : CommitNumber} → D a b → b ≢ next_number s
    first-not-new {a} {b} d e = let l : b < next_number s = below a b d in omega arith

    -- D;RW? after the commit
    pub step_after : (a b : CommitNumber) → ThenMaybe D' (RW (after s u c)) a b ↔ (ThenMaybe D (RW (history s)) a b ⊎ NewStep s u c D E E a b)
    step_after a b = (out, back)
      where
        link : D a b ⊎ ((b ≡ next_number s) × E a) → ThenMaybe D (RW (history s)) a b ⊎ NewStep s u c D E E a b
        link (inl d) = inl (alone d)
        link (inr (e, x)) = inr (inl (e, inl x))

        cases : (r : CommitNumber) → D a r ⊎ ((r ≡ next_number s) × E a) → RW (history s) r b ⊎ (((b ≡ next_number s) × FromReader s c r) ⊎ ((r ≡ next_number s) × ToLater s u c b))
            → ThenMaybe D (RW (history s)) a b ⊎ NewStep s u c D E E a b
        cases r (inl d) (inl x) = inl (followed d x)
        cases r (inl d) (inr (inl (e, x))) = inr (inl (e, inr (r, d, x)))
        cases r (inl d) (inr (inr (e, x))) = absurd (first-not-new d e)
        cases r (inr (e, x)) (inl (read-write {k} {i} y w l n)) = absurd (stored-not-new s u c m (as-reader {k = k} {i = i} y) e)
        cases r (inr (e, x)) (inr (inl (_, y))) = absurd (stored-not-new s u c m (from-reader-stored s c y) e)
        cases r (inr (e, x)) (inr (inr (_, y))) = inr (inr (y, x))

        out : ThenMaybe D' (RW (after s u c)) a b → ThenMaybe D (RW (history s)) a b ⊎ NewStep s u c D E E a b
        out (alone d) = link ((grows a b).0 d)
        out (followed {b = r} d x) = cases r ((grows a r).0 d) ((RW-after s u c m r b).0 x)

        back : ThenMaybe D (RW (history s)) a b ⊎ NewStep s u c D E E a b → ThenMaybe D' (RW (after s u c)) a b
        back (inl (alone d)) = alone ((grows a b).1 (inl d))
        back (inl (followed {b = r} d x)) = followed ((grows a r).1 (inl d)) ((RW-after s u c m r b).1 (inl x))
        back (inr (inl (e, inl x))) = alone ((grows a b).1 (inr (e, x)))
        back (inr (inl (e, inr (r, d, x)))) = followed ((grows a r).1 (inl d)) ((RW-after s u c m r b).1 (inr (inl (e, x))))
        back (inr (inr (x, y))) = followed ((grows a (next_number s)).1 (inr (refl, y))) ((RW-after s u c m (next_number s) b).1 (inr (inr (refl, x))))

    -- where D leads to a reader of a key
    pub leads-after : (k a : ℕ) → LeadsTo D' (after s u c) k a ↔ (LeadsTo D (history s) k a ⊎ (T (reads c k) × E a))
    leads-after k a = (λ (r, d, x). cases r ((grows a r).0 d) ((reader-of-after s u c m k r).0 x), back)
      where
        cases : (r : CommitNumber) → D a r ⊎ ((r ≡ next_number s) × E a) → ReaderOf (history s) k r ⊎ ((r ≡ next_number s) × T (reads c k)) → LeadsTo D (history s) k a ⊎ (T (reads c k) × E a)
        cases r (inl d) (inl x) = inl (r, d, x)
        cases r (inl d) (inr (e, _)) = absurd (first-not-new d e)
        cases r (inr (e, _)) (inl (i, x)) = absurd (stored-not-new s u c m (as-reader {k = k} {i = i} x) e)
        cases r (inr (_, y)) (inr (_, x)) = inr (x, y)

        back : LeadsTo D (history s) k a ⊎ (T (reads c k) × E a) → LeadsTo D' (after s u c) k a
        back (inl (r, d, x)) = (r, (grows a r).1 (inl d), (reader-of-after s u c m k r).1 (inl x))
        back (inr (x, y)) = ((next_number s), (grows a (next_number s)).1 (inr (refl, y)), (reader-of-after s u c m k (next_number s)).1 (inr (refl, x)))

  -- ---- any steps that grow so: those that end at the new commit, and those that end elsewhere

  module _ (S S' D : ℕ → ℕ → Type 0) (Into Through : ℕ → Type 0) (below : Below (next_number s) S)
      (grows : (a b : CommitNumber) → S' a b ↔ (S a b ⊎ NewStep s u c D Into Through a b)) where
    pub step-to-new : (a : CommitNumber) → S' a (next_number s) ↔ (Into a ⊎ Brought s c D a)
    step-to-new a = (λ x. out ((grows a (next_number s)).0 x), λ x. (grows a (next_number s)).1 (inr (inl (refl, x))))
      where
        out : S a (next_number s) ⊎ NewStep s u c D Into Through a (next_number s) → Into a ⊎ Brought s c D a
        out (inl x) = let l : (next_number s) < next_number s = below a (next_number s) x in absurd (omega arith)
        out (inr (inl (_, x))) = x
        out (inr (inr (x, _))) = absurd (stored-not-new s u c m (to-later-stored s u c x) refl)

    pub step-to-old : (a b : CommitNumber) → b ≢ next_number s → S' a b ↔ (S a b ⊎ (ToLater s u c b × Through a))
    step-to-old a b n = (λ x. out ((grows a b).0 x), λ x. (grows a b).1 (back x))
      where
        out : S a b ⊎ NewStep s u c D Into Through a b → S a b ⊎ (ToLater s u c b × Through a)
        out (inl x) = inl x
        out (inr (inl (e, _))) = absurd (n e)
        out (inr (inr x)) = inr x

        back : S a b ⊎ (ToLater s u c b × Through a) → S a b ⊎ NewStep s u c D Into Through a b
        back (inl x) = inl x
        back (inr x) = inr (inr x)

  -- ---- the first links of clauses 6 and 7

  session-or-read-below : Below (next_number s) (SessionOrRead (history s))
  session-or-read-below a b (inl d) = SO-below (next_number s) (history s) (stored-below s m.sound) a b d
  session-or-read-below a b (inr d) = WR-below (next_number s) (history s) (stored-below s m.sound) a b d

  pub session-or-read-after : Grows (next_number s) (SessionOrRead (history s)) (SessionOrRead (after s u c)) (SessionOrReadSource s u c)
  session-or-read-after = either-grows (next_number s) (SO (history s)) (SO (after s u c)) (WR (history s)) (WR (after s u c)) (FromSession s c) (FromRead s u c) (SO-after s u c m) (WR-after s u c m)

  plain-or-after : Grows (next_number s) (λ a b. SessionOrRead (history s) a b ⊎ WW (history s) a b) (λ a b. SessionOrRead (after s u c) a b ⊎ WW (after s u c) a b) (PlainSource s u c)
  plain-or-after = either-grows (next_number s) (SessionOrRead (history s)) (SessionOrRead (after s u c)) (WW (history s)) (WW (after s u c)) (SessionOrReadSource s u c) (FromWrite s c) session-or-read-after (WW-after s u c m)

  pub plain-after : Grows (next_number s) (PlainLink (history s)) (PlainLink (after s u c)) (PlainSource s u c)
  plain-after a b = both (plain-link-is (after s u c) a b) (both (plain-or-after a b) (out, back))
    where
      out : (SessionOrRead (history s) a b ⊎ WW (history s) a b) ⊎ ((b ≡ next_number s) × PlainSource s u c a) → PlainLink (history s) a b ⊎ ((b ≡ next_number s) × PlainSource s u c a)
      out (inl d) = inl ((plain-link-is (history s) a b).1 d)
      out (inr x) = inr x

      back : PlainLink (history s) a b ⊎ ((b ≡ next_number s) × PlainSource s u c a) → (SessionOrRead (history s) a b ⊎ WW (history s) a b) ⊎ ((b ≡ next_number s) × PlainSource s u c a)
      back (inl d) = inl ((plain-link-is (history s) a b).0 d)
      back (inr x) = inr x

  -- ---- the steps of clause 7

  pub snapshot-after : (a b : CommitNumber) → SnapshotStep (after s u c) a b ↔ (SnapshotStep (history s) a b ⊎ NewStep s u c (PlainLink (history s)) (PlainSource s u c) (PlainSource s u c) a b)
  snapshot-after = step_after (PlainLink (history s)) (PlainLink (after s u c)) (PlainSource s u c) (plain-below (next_number s) (history s) (stored-below s m.sound)) plain-after

  pub snapshot-to-new : (a : CommitNumber) → SnapshotStep (after s u c) a (next_number s) ↔ (PlainSource s u c a ⊎ Brought s c (PlainLink (history s)) a)
  snapshot-to-new = step-to-new (SnapshotStep (history s)) (SnapshotStep (after s u c)) (PlainLink (history s)) (PlainSource s u c) (PlainSource s u c) (snapshot-below (next_number s) (history s) (stored-below s m.sound)) snapshot-after

  pub snapshot-to-old : (a b : CommitNumber) → b ≢ next_number s → SnapshotStep (after s u c) a b ↔ (SnapshotStep (history s) a b ⊎ (ToLater s u c b × PlainSource s u c a))
  snapshot-to-old = step-to-old (SnapshotStep (history s)) (SnapshotStep (after s u c)) (PlainLink (history s)) (PlainSource s u c) (PlainSource s u c) (snapshot-below (next_number s) (history s) (stored-below s m.sound)) snapshot-after

  pub snapshot-leads-after : (k a : ℕ) → LeadsTo (PlainLink (after s u c)) (after s u c) k a ↔ (LeadsTo (PlainLink (history s)) (history s) k a ⊎ (T (reads c k) × PlainSource s u c a))
  snapshot-leads-after = leads-after (PlainLink (history s)) (PlainLink (after s u c)) (PlainSource s u c) (plain-below (next_number s) (history s) (stored-below s m.sound)) plain-after

  -- ---- the steps of clause 6: WW, which is not followed by RW, leads to the new commit as well

  pub prefix-after : (a b : CommitNumber) → PrefixStep (after s u c) a b ↔ (PrefixStep (history s) a b ⊎ NewStep s u c (SessionOrRead (history s)) (PlainSource s u c) (SessionOrReadSource s u c) a b)
  prefix-after a b = both (prefix-step-is (after s u c) a b) (out, back)
    where
      New : Type 0
      New = NewStep s u c (SessionOrRead (history s)) (PlainSource s u c) (SessionOrReadSource s u c) a b

      steps : ThenMaybe (SessionOrRead (after s u c)) (RW (after s u c)) a b
          ↔ (ThenMaybe (SessionOrRead (history s)) (RW (history s)) a b ⊎ NewStep s u c (SessionOrRead (history s)) (SessionOrReadSource s u c) (SessionOrReadSource s u c) a b)
      steps = step_after (SessionOrRead (history s)) (SessionOrRead (after s u c)) (SessionOrReadSource s u c) session-or-read-below session-or-read-after a b

      step : ThenMaybe (SessionOrRead (history s)) (RW (history s)) a b ⊎ NewStep s u c (SessionOrRead (history s)) (SessionOrReadSource s u c) (SessionOrReadSource s u c) a b → PrefixStep (history s) a b ⊎ New
      step (inl x) = inl ((prefix-step-is (history s) a b).1 (inl x))
      step (inr (inl (e, inl x))) = inr (inl (e, inl (inl x)))
      step (inr (inl (e, inr x))) = inr (inl (e, inr x))
      step (inr (inr x)) = inr (inr x)

      write : WW (history s) a b ⊎ ((b ≡ next_number s) × FromWrite s c a) → PrefixStep (history s) a b ⊎ New
      write (inl x) = inl ((prefix-step-is (history s) a b).1 (inr x))
      write (inr (e, x)) = inr (inl (e, inl (inr x)))

      out : ThenMaybe (SessionOrRead (after s u c)) (RW (after s u c)) a b ⊎ WW (after s u c) a b → PrefixStep (history s) a b ⊎ New
      out (inl x) = step (steps.0 x)
      out (inr x) = write ((WW-after s u c m a b).0 x)

      old : ThenMaybe (SessionOrRead (history s)) (RW (history s)) a b ⊎ WW (history s) a b → ThenMaybe (SessionOrRead (after s u c)) (RW (after s u c)) a b ⊎ WW (after s u c) a b
      old (inl x) = inl (steps.1 (inl x))
      old (inr x) = inr ((WW-after s u c m a b).1 (inl x))

      back : PrefixStep (history s) a b ⊎ New → ThenMaybe (SessionOrRead (after s u c)) (RW (after s u c)) a b ⊎ WW (after s u c) a b
      back (inl x) = old ((prefix-step-is (history s) a b).0 x)
      back (inr (inl (e, inl (inl x)))) = inl (steps.1 (inr (inl (e, inl x))))
      back (inr (inl (e, inl (inr x)))) = inr ((WW-after s u c m a b).1 (inr (e, x)))
      back (inr (inl (e, inr x))) = inl (steps.1 (inr (inl (e, inr x))))
      back (inr (inr x)) = inl (steps.1 (inr (inr x)))

  pub prefix-to-new : (a : CommitNumber) → PrefixStep (after s u c) a (next_number s) ↔ (PlainSource s u c a ⊎ Brought s c (SessionOrRead (history s)) a)
  prefix-to-new = step-to-new (PrefixStep (history s)) (PrefixStep (after s u c)) (SessionOrRead (history s)) (PlainSource s u c) (SessionOrReadSource s u c) (prefix-below (next_number s) (history s) (stored-below s m.sound)) prefix-after

  pub prefix-to-old : (a b : CommitNumber) → b ≢ next_number s → PrefixStep (after s u c) a b ↔ (PrefixStep (history s) a b ⊎ (ToLater s u c b × SessionOrReadSource s u c a))
  prefix-to-old = step-to-old (PrefixStep (history s)) (PrefixStep (after s u c)) (SessionOrRead (history s)) (PlainSource s u c) (SessionOrReadSource s u c) (prefix-below (next_number s) (history s) (stored-below s m.sound)) prefix-after

  pub prefix-leads-after : (k a : ℕ) → LeadsTo (SessionOrRead (after s u c)) (after s u c) k a ↔ (LeadsTo (SessionOrRead (history s)) (history s) k a ⊎ (T (reads c k) × SessionOrReadSource s u c a))
  prefix-leads-after = leads-after (SessionOrRead (history s)) (SessionOrRead (after s u c)) (SessionOrReadSource s u c) session-or-read-below session-or-read-after
