-- An order that gives a bare image leads no link backwards, so the image has no closed walk of links. Assumes nothing.
use Prim.Native.Nat.{ℕ, zero, suc, ◌≤◌, ◌<◌}
use mathlib.Core.Path.{◌≡◌, refl, sym, ap, ◌∙◌, subst}
use mathlib.Core.List.{List}
use native.Mathlib.Omega.{arith}
use native.Mathlib.Decide.{ℕ_discrete, dec_lt}
use lib.Dec.{T}
use lib.ListN.{length, get_or, length-map}
use Rattle.sets.specs.Set.{has}
use Rattle.relations.specs.Relation.{Plus, one, more}
use Rattle.relations.proofs.Walks.{Acyclic}
use Rattle.dependencies.specs.History.{write_read, write-write, read-write}
use Rattle.store.specs.Store.{CommitNumber, Version, opening_version, Store, count, version}
use Rattle.store.specs.Links.{LinkKind, so, wr, ww, rw as rw-kind}
use Rattle.store.specs.History.{Wrote, Read}
use Rattle.ordering.specs.Links.{links, IsCommit}
use Rattle.ordering.specs.Order.{name_in, made_after, renamed, IsOrder}
use Rattle.ordering.proofs.Lists.{none-twice-few}
use Rattle.ordering.proofs.Shape.{WellFormed, LinkOf, some-kind, linked-by-is, links-between}
use Rattle.ordering.proofs.Names.{Names, order-names, renamed-has, get_d_map}
use Rattle.ordering.proofs.Forward.{Forward}
use Rattle.ordering.proofs.Run.{after-commits, after-sound, after-forward}

module _ (s : Store) (h : WellFormed s) (order : List CommitNumber) (o : IsOrder s order) where
  abbrev n : ℕ
  n = length order

  abbrev ν : CommitNumber → CommitNumber
  ν = name_in order

  -- the store that the run ends in
  abbrev g : Store
  g = made_after s ν n

  names : Names s.commits n ν
  names = order-names s.commits order o.each-once

  forward : Forward g
  forward = after-forward s ν h.only-keys n (omega (arith, none-twice-few s.commits order o.each-once.only-commits o.each-once.none-twice, h.few-commits))

  count_same : (k : ℕ) → count g k ≡ count s k
  count_same k = sym (length-map (g.versions k) (renamed ν n)) ∙ ap length (o.gives k)

  version-same : (k i : ℕ) → i < count s k → version s k i ≡ renamed ν n (version g k i)
  version-same k i l =
      ap (λ (vs : List Version). get_or vs i opening_version) (sym (o.gives k))
      ∙ get_d_map (renamed ν n) (g.versions k) i opening_version opening_version (omega (arith, count_same k))

  -- what a commit wrote or read in the image, its number wrote or read in the run
  wrote-run : (a k i : ℕ) → Wrote s a k i → (j : ℕ) × (j ≤ n) × Wrote g j k i × (ν j ≡ a)
  unfolding renamed
  wrote-run a k i (l, e) =
      let there : i < count g k = omega (arith, count_same k) in
      let low = (after-sound s ν h.only-keys n).writers (version g k i).writer k i (there, refl) in
      ((version g k i).writer, omega (arith, low, after-commits s ν n), (there, refl), sym (ap (λ (v : Version). v.writer) (version-same k i l)) ∙ e)

  read-run : (a k i : ℕ) → Read s a k i → (j : ℕ) × (j ≤ n) × Read g j k i × (ν j ≡ a)
  unfolding renamed
  read-run a k i (l, t) =
      let x = renamed-has ν (suc n) (version g k i).readers a (subst (λ (v : Version). T (has v.readers a)) (version-same k i l) t) in
      let q : x.0 < suc n = x.1 in
      (x.0, omega arith, (omega (arith, count_same k), x.2), x.3)

  -- a number of the run that has the name
  abbrev Numbered : CommitNumber → ℕ → Type 0
  Numbered a i = (i ≤ n) × (ν i ≡ a)

  -- numbers of the run whose names the link joins
  abbrev Rises : CommitNumber → CommitNumber → Type 0
  Rises a b = (i : ℕ) × (j : ℕ) × (i < j) × (Numbered a i × Numbered b j)

  session-rises : (a b i j : ℕ) → ν i ≡ a → ν j ≡ b → 0 < i → i ≤ n → 0 < j → j ≤ n → s.client_of a ≡ s.client_of b → s.session_of a < s.session_of b → i < j
  session-rises a b zero j ei ej pi li pj lj c l = absurd (omega arith)
  session-rises a b (suc i) zero ei ej pi li pj lj c l = absurd (omega arith)
  session-rises a b (suc i) (suc j) ei ej pi li pj lj c l = go (dec_lt i j) (ℕ_discrete i j)
    where
      go : Dec (i < j) → Dec (i ≡ j) → suc i < suc j
      go (yes q) d = omega arith
      go (no q) (yes e) =
          let same : a ≡ b = sym ei ∙ ap (λ (x : ℕ). ν (suc x)) e ∙ ej in
          let z = ap s.session_of same in absurd (omega (arith, z))
      go (no q) (no e) =
          let back : s.session_of (ν (suc j)) < s.session_of (ν (suc i)) =
          o.in-number-order j i (omega arith) (omega arith) (ap s.client_of ej ∙ sym c ∙ ap s.client_of (sym ei)) in
          absurd (omega (arith, ap s.session_of ei, ap s.session_of ej))

  kind-rises : (kind : LinkKind) (a b : CommitNumber) → IsCommit s.commits a → IsCommit s.commits b → LinkOf s h kind a b → Rises a b
  kind-rises so a b ca cb (c, l) =
      let x = names.named a ca in
      let y = names.named b cb in
      (x.0, y.0, session-rises a b x.0 y.0 x.3 y.3 x.1 x.2 y.1 y.2 c l, ((x.2, x.3), (y.2, y.3)))
  kind-rises wr a b ca cb (write_read {k} {i} w r) =
      let x = wrote-run a k i w in
      let y = read-run b k i r in
      (x.0, y.0, forward.wr _ _ k i x.2 y.2, ((x.1, x.3), (y.1, y.3)))
  kind-rises ww a b ca cb (write-write {k} {i} {j} w v l) =
      let x = wrote-run a k i w in
      let y = wrote-run b k j v in
      (x.0, y.0, forward.ww _ _ k i j x.2 y.2 l, ((x.1, x.3), (y.1, y.3)))
  kind-rises rw-kind a b ca cb (read-write {k} {i} {j} r w l differ) =
      let x = read-run a k i r in
      let y = wrote-run b k j w in
      (x.0, y.0, strict x.0 y.0 (forward.rw-up _ _ k i j x.2 y.2 l) x.3 y.3, ((x.1, x.3), (y.1, y.3)))
    where
      strict : (p q : ℕ) → p ≤ q → ν p ≡ a → ν q ≡ b → p < q
      strict p q m e e' = go (ℕ_discrete p q)
        where
          go : Dec (p ≡ q) → p < q
          go (yes z) = absurd (differ (sym e ∙ ap ν z ∙ e'))
          go (no z) = omega arith

  -- a link leads to a higher number
  link-rises : (a b : CommitNumber) → T (links s a b) → (i : ℕ) → Numbered a i → (j : ℕ) × (i < j) × Numbered b j
  link-rises a b t i (l, e) =
      let x = some-kind s a b t in
      let y = (linked-by-is s h x.0 a b).0 x.1 in
      go (kind-rises x.0 a b y.0.0 y.0.1 y.1)
    where
      go : Rises a b → (j : ℕ) × (i < j) × Numbered b j
      go (p, q, m, (na, nb)) = let z : i ≡ p = names.once i p l na.0 (e ∙ sym na.1) in (q, omega arith, nb)

  -- so every link to a commit of the order comes from an earlier one
  pub order-earlier : (j : ℕ) → 0 < j → j ≤ n → (a : CommitNumber) → T (links s a (ν j)) → (i : ℕ) × (0 < i) × (i < j) × (ν i ≡ a)
  order-earlier j p l a t =
      let x = names.named a (links-between s h a (ν j) t).0 in
      let y = link-rises a (ν j) t x.0 (x.2, x.3) in
      let e = names.once y.0 j y.2.0 l y.2.1 in
      let m = y.1 in
      (x.0, x.1, omega (arith, e, m), x.3)

  walk-rises : {a b : CommitNumber} → Plus (λ x y. T (links s x y)) a b → (i : ℕ) → Numbered a i → (j : ℕ) × (i < j) × Numbered b j
  walk-rises (one t) i m = link-rises _ _ t i m
  walk-rises (more t p) i m =
      let x = link-rises _ _ t i m in
      let y = walk-rises p x.0 x.2 in
      let l : i < x.0 = x.1 in let l' : x.0 < y.0 = y.1 in
      (y.0, omega arith, y.2)

  starts : {a b : CommitNumber} → Plus (λ x y. T (links s x y)) a b → IsCommit s.commits a
  starts (one t) = (links-between s h _ _ t).0
  starts (more t p) = (links-between s h _ _ t).0

  -- so no walk of links comes back
  pub order-acyclic : Acyclic (λ a b. T (links s a b))
  order-acyclic a p =
      let x = names.named a (starts p) in
      let y = walk-rises p x.0 (x.2, x.3) in
      let same = names.once x.0 y.0 x.2 y.2.0 (x.3 ∙ sym y.2.1) in
      let l = y.1 in omega (arith, same, l)
