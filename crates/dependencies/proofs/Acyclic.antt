-- A commit keeps the graph without rings. Where no closed walk of clause 7's steps is in the store before a commit that passes clauses 5 and 7
-- and whose view holds what its client wrote and read, none is there after it; and where no closed walk of any links is there before
-- a commit that passes clause 8, none is there after it. Only RW links leave the new commit t, so a closed walk passes t in the middle of a step
-- or not at all; it is cut there, and what is left leads from a commit that t did not see back to one that it saw. Assumes nothing.
use Prim.Native.Nat.{ℕ, ◌<◌, ◌≤◌}
use native.Mathlib.Omega.{arith}
use native.Mathlib.Decide.{ℕ_discrete}
use mathlib.Core.Path.{◌≡◌, sym, ap, ◌∙◌, subst}
use mathlib.Core.Logic.{◌⊎◌, inl, inr, ◌≢◌}
use Rattle.relations.specs.Relation.{alone, followed, Plus}
use Rattle.relations.proofs.Walks.{Star, stay, then, Acyclic, star-link, plus-map, closed-ends, cut-ring}
use Rattle.dependencies.specs.History.{History, Stored, as-writer, as-reader, SO, session-order, write_read, write-write, RW, read-write, PlainLink, by-SO, by-WR, by-WW, Dependency, SnapshotStep, Held, Holds, UpdateAtomic, SnapshotIsolation, Serialisable}
use Rattle.dependencies.proofs.Growth.{OwnWrite, OwnRead, SameClient, Grown, Owns}

unless-right : {A B : Type 0} → A ⊎ B → ¬ B → A
unless-right (inl x) n = x
unless-right (inr y) n = absurd (n y)

unless-left : {A B : Type 0} → A ⊎ B → ¬ A → B
unless-left (inl x) n = absurd (n x)
unless-left (inr y) n = y

module _ (H H' : History) (U : Held) (t : ℕ) (writes : ℕ → Type 0) (g : Grown H H' U t writes) where
  -- ---- what t changes

  t-not-stored : ¬ Stored H t
  t-not-stored s = let h : t < t = g.stored-before t s in omega arith

  -- what t wrote is later than every version before it
  own-write : {k i : ℕ} → H'.wrote t k i → OwnWrite H writes t t k i
  own-write w = unless-left (g.written_after _ _ _ w) (λ x. t-not-stored (as-writer x))

  -- what t read is the newest version that its view holds
  own_read : {k i : ℕ} → H'.read t k i → OwnRead U t t k i
  own_read r = unless-left (g.read-after _ _ _ r) (λ x. t-not-stored (as-reader x))

  -- every version that is read after t was written before it
  read-written : {a k i : ℕ} → H'.read a k i → (b : ℕ) × H.wrote b k i
  read-written {a} {k} {i} r = go (g.read-after a k i r)
    where
      go : H.read a k i ⊎ OwnRead U t a k i → (b : ℕ) × H.wrote b k i
      go (inl x) = g.reads-written _ _ _ x
      go (inr x) = g.view-written _ _ x.1

  -- another commit than t wrote and read before t what it did after; so links between two such were there before t
  wrote-old : {a k i : ℕ} → H'.wrote a k i → a ≢ t → H.wrote a k i
  wrote-old w n = unless-right (g.written_after _ _ _ w) (λ x. n x.0)

  read-old : {a k i : ℕ} → H'.read a k i → a ≢ t → H.read a k i
  read-old r n = unless-right (g.read-after _ _ _ r) (λ x. n x.0)

  stored-old : {a : ℕ} → Stored H' a → a ≢ t → Stored H a
  stored-old (as-writer w) n = as-writer (wrote-old w n)
  stored-old (as-reader r) n = as-reader (read-old r n)

  SO-old : {a b : ℕ} → SO H' a b → a ≢ t → b ≢ t → SO H a b
  SO-old {a} {b} (session-order sa sb pa pb same less) na nb =
      let sa' : Stored H a = stored-old sa na in
      let sb' : Stored H b = stored-old sb nb in
      let la : a < t = g.stored-before _ sa' in
      let lb : b < t = g.stored-before _ sb' in
      session-order sa' sb' pa pb (sym (g.client-kept a la) ∙ same ∙ g.client-kept b lb) (rw (← g.session-kept a la, ← g.session-kept b lb) less)

  plain-old : {a b : ℕ} → PlainLink H' a b → a ≢ t → b ≢ t → PlainLink H a b
  plain-old (by-SO s) na nb = by-SO (SO-old s na nb)
  plain-old (by-WR (write_read w r)) na nb = by-WR (write_read (wrote-old w na) (read-old r nb))
  plain-old (by-WW (write-write w w' l)) na nb = by-WW (write-write (wrote-old w na) (wrote-old w' nb) l)

  RW-old : {a b : ℕ} → RW H' a b → a ≢ t → b ≢ t → RW H a b
  RW-old (read-write r w l n) na nb = read-write (read-old r na) (wrote-old w nb) l n

  -- ---- only RW links leave t

  no-plain-from-t : {b : ℕ} → PlainLink H' t b → Dec (b ≡ t) → ⊥
  no-plain-from-t (by-WR (write_read {k} {i} w r)) d = let h : i < i = (own-write w).2 _ _ (read-written r).1 in omega arith
  no-plain-from-t (by-SO (session-order st sb pt pb same less)) (yes e) = let f = ap H'.session_of e in omega arith
  no-plain-from-t {b} (by-SO (session-order st sb pt pb same less)) (no n) =
      let sb' : Stored H b = stored-old sb n in
      let lb : b < t = g.stored-before b sb' in
      let h : H.session_of b < H'.session_of t = g.session-grows b (sb', pb, sym (g.client-kept b lb) ∙ sym same) in
      let e : H'.session_of b ≡ H.session_of b = g.session-kept b lb in
      omega arith
  no-plain-from-t (by-WW (write-write {k} {i} {j} w w' l)) (yes e) =
      let h : i ≡ j = g.one-write k i j w (subst (λ (x : ℕ). H'.wrote x k j) e w') in omega arith
  no-plain-from-t (by-WW (write-write {k} {i} {j} w w' l)) (no n) = let h : j < i = (own-write w).2 _ _ (wrote-old w' n) in omega arith

  plain-starts : {a b : ℕ} → PlainLink H' a b → a ≢ t
  plain-starts {a} {b} d e = no-plain-from-t (subst (λ (x : ℕ). PlainLink H' x b) e d) (ℕ_discrete b t)

  step-starts : (a b : ℕ) → SnapshotStep H' a b → a ≢ t
  step-starts a b (alone d) = plain-starts d
  step-starts a b (followed d r) = plain-starts d

  -- a commit with a version that t's view does not hold
  data Unseen (a : ℕ) : Type 0 where
    unseen : {k i : ℕ} → H.wrote a k i → ¬ U k i → Unseen a

  -- an RW link out of t leads to such a commit
  RW-from : {b : ℕ} → RW H' t b → Unseen b
  RW-from {b} (read-write {k} {i} {j} r w l n) = unseen (wrote-old w (λ e. n (sym e))) λ h. let m : j ≤ i = (own_read r).2 j h in omega arith

  -- ---- clauses 5 and 7

  -- a commit that t saw: its view holds a version of it, or t's client made it
  data Seen (a : ℕ) : Type 0 where
    held : Holds H U a → Seen a
    own : SameClient H H' t a → Seen a

  module _ (ua : UpdateAtomic H U writes) where
    -- a link of another kind than RW into t comes from a commit that t saw
    plain-into : {a : ℕ} → PlainLink H' a t → a ≢ t → Seen a
    plain-into {a} (by-SO (session-order sa st pa pt same less)) n =
        let sa' : Stored H a = stored-old sa n in
        own (sa', pa, sym (g.client-kept a (g.stored-before a sa')) ∙ same)
    plain-into (by-WR (write_read {k} {i} w r)) n = held (k, i, (own_read r).1, wrote-old w n)
    plain-into {a} (by-WW (write-write {k} {i} {j} w w' l)) n = held (k, i, ua a k i (own-write w').1 (wrote-old w n), wrote-old w n)

    -- a step that ends elsewhere was there before t, or passes t
    step-old-or-through : (a b : ℕ) → SnapshotStep H' a b × (b ≢ t) → SnapshotStep H a b ⊎ (Seen a × Unseen b)
    step-old-or-through a b (alone d, n) = inl (alone (plain-old d (plain-starts d) n))
    step-old-or-through a b (followed {b = c} d r, n) = go (ℕ_discrete c t)
      where
        go : Dec (c ≡ t) → SnapshotStep H a b ⊎ (Seen a × Unseen b)
        go (yes e) = inr (plain-into (subst (λ (x : ℕ). PlainLink H' a x) e d) (plain-starts d), RW-from (subst (λ (x : ℕ). RW H' x b) e r))
        go (no m) = inl (followed (plain-old d (plain-starts d) m) (RW-old r m n))

    module _ (si : SnapshotIsolation H U) (o : Owns H H' U t) where
      -- no old walk leads from a commit that t did not see to one whose version its view holds
      not-to-held : {w x : ℕ} → Star (SnapshotStep H) w x → Unseen w → Holds H U x → ⊥
      not-to-held stay (unseen v n) h = n (g.atomic _ h _ _ v)
      not-to-held (then s r) (unseen v n) h = n (si _ _ h (star-link s r) _ _ v)

      -- nor to one of t's client: its last step comes from such a commit, or ends at what that commit wrote, or comes from what it read
      not-to-own : {w x : ℕ} → Star (SnapshotStep H) w x → Unseen w → SameClient H H' t x → ⊥
      not-to-own stay (unseen v n) c = n (o.own-writes _ c _ _ v)
      not-to-own (then s (alone (by-SO (session-order sy sx py px same less)))) u c = not-to-own s u (sy, py, same ∙ c.2)
      not-to-own (then s (alone (by-WR (write_read w r)))) u c = not-to-held s u (_, _, o.own-reads _ c _ _ r, w)
      not-to-own (then s (alone (by-WW (write-write w w' l)))) u c = not-to-held (then s (alone (by-WW (write-write w w' l)))) u (_, _, o.own-writes _ c _ _ w', w')
      not-to-own (then s (followed d (read-write r w l n))) u c = not-to-held (then s (followed d (read-write r w l n))) u (_, _, o.own-writes _ c _ _ w, w)

      not-to-seen : {w x : ℕ} → Star (SnapshotStep H) w x → Unseen w → Seen x → ⊥
      not-to-seen s u (held h) = not-to-held s u h
      not-to-seen s u (own c) = not-to-own s u c

      -- A commit that passes 5 and 7, and owns, closes no walk of clause 7's steps.
      pub snapshot-stays-acyclic : Acyclic (SnapshotStep H) → Acyclic (SnapshotStep H')
      snapshot-stays-acyclic h a p = go (cut-ring step-old-or-through (closed-ends step-starts p))
        where
          go : Plus (SnapshotStep H) a a ⊎ ((w : ℕ) × (x : ℕ) × Unseen w × Star (SnapshotStep H) w x × Seen x) → ⊥
          go (inl q) = h a q
          go (inr (w, x, u, s, b)) = not-to-seen s u b

  -- ---- clause 8: no link at all leaves t

  module _ (ser : Serialisable H U) where
    RW-starts : {a b : ℕ} → RW H' a b → a ≢ t
    RW-starts {a} {b} r e = go (RW-from (subst (λ (x : ℕ). RW H' x b) e r))
      where
        go : Unseen b → ⊥
        go (unseen w n) = n (ser b _ _ w)

    dependency-starts : (a b : ℕ) → Dependency H' a b → a ≢ t
    dependency-starts a b (inl d) = plain-starts d
    dependency-starts a b (inr r) = RW-starts r

    dependency-old : (a b : ℕ) → Dependency H' a b × (b ≢ t) → Dependency H a b
    dependency-old a b (inl d, n) = inl (plain-old d (plain-starts d) n)
    dependency-old a b (inr r, n) = inr (RW-old r (RW-starts r) n)

    -- A commit that passes 8 closes no walk of any links.
    pub dependencies-stay-acyclic : Acyclic (Dependency H) → Acyclic (Dependency H')
    dependencies-stay-acyclic h a p = h a (plus-map dependency-old (closed-ends dependency-starts p))
