-- An order of the commits of a bare image that leads no link backwards gives the image. After m commits of it the run holds of each key
-- the versions whose writers are placed, in the image's order, with the readers that are placed. Assumes nothing.
use Prim.Native.Nat.{ℕ, zero, suc, ◌≤◌, ◌<◌}
use mathlib.Core.Path.{◌≡◌, refl, sym, ap, ◌∙◌, subst}
use mathlib.Core.Logic.{◌⊎◌, inl, inr, ◌↔◌}
use mathlib.Core.Option.{some}
use mathlib.Core.List.{List, map}
use native.Mathlib.Omega.{arith}
use native.Mathlib.Decide.{ℕ_discrete, dec_lt}
use lib.Dec.{T, ltb}
use lib.ListN.{length, get_or, length-map}
use lib.Seq.{ext_get_or}
use Rattle.search.proofs.Tests.{T?, same_test, eq_is, eq_test, is_some-some}
use Rattle.sets.specs.Set.{has}
use Rattle.sets.proofs.Algebra.{same-sets}
use Rattle.dependencies.specs.History.{write_read, write-write, read-write}
use Rattle.store.specs.Store.{Key, CommitNumber, Version, opening_version, View, Store, opening_store, opening, count, version, next_number, read, write, Commit}
use Rattle.store.specs.Update.{value_of, reads, writes, newest, update}
use Rattle.store.specs.Links.{so, wr, ww, rw as rw-kind}
use Rattle.store.specs.History.{Wrote, Read}
use Rattle.store.proofs.Updated.{count-written, count-unwritten, wrote-stays, wrote-new, read-update-is}
use Rattle.store.proofs.Sound.{opening-first, opening-unread, sound-opening}
use Rattle.answer.specs.Replay.{full_view}
use Rattle.answer.proofs.Values.{value-kept, value-new}
use Rattle.ordering.specs.Links.{links, IsCommit}
use Rattle.ordering.specs.Order.{commit_of, name_in, made_after, renamed, renamed_set, EachOnce, IsOrder}
use Rattle.ordering.proofs.Lists.{none-twice-few}
use Rattle.ordering.proofs.Placing.{NoneBackwards}
use Rattle.ordering.proofs.Shape.{WellFormed, written-later, link}
use Rattle.ordering.proofs.Operations.{does-out, does-in}
use Rattle.ordering.proofs.Names.{Names, order-names, renamed-has, has-renamed, get_d_map}
use Rattle.ordering.proofs.Run.{after-keys, after-commits, after-sound, newest-last}

module _ (s : Store) (h : WellFormed s) (ν : CommitNumber → CommitNumber) (n : ℕ) (few : n ≤ 63) (names : Names s.commits n ν)
    (earlier : (j : ℕ) → 0 < j → j ≤ n → (a : CommitNumber) → T (links s a (ν j)) → (i : ℕ) × (0 < i) × (i < j) × (ν i ≡ a)) where
  -- the commit is one of the first m of the order
  abbrev pub Placed : ℕ → CommitNumber → Type 0
  Placed m c = (j : ℕ) × (0 < j) × (j ≤ m) × (ν j ≡ c)

  -- what the run holds after m commits
  pub record Holds (m : ℕ) (g : Store) : Type 0 where
    pub some_of : (k : Key) → count g k ≤ count s k
    pub written : (k i : ℕ) → 0 < i → i < count s k → (i < count g k) ↔ Placed m (version s k i).writer
    pub value : (k i : ℕ) → i < count g k → (version g k i).value ≡ (version s k i).value
    pub writer : (k i : ℕ) → i < count g k → ν (version g k i).writer ≡ (version s k i).writer
    pub readers : (k i j : ℕ) → i < count g k → T (has (version g k i).readers j) ↔ ((0 < j) × (j ≤ m) × T (has (version s k i).readers (ν j)))

  -- ---- at the opening

  opening-count : (k : Key) → count (opening_store s.keys) k ≤ 1
  unfolding opening opening_store
  opening-count k = (sound-opening s.keys).store.few k

  opening-version : (k i : ℕ) → i < count (opening_store s.keys) k
      → (k < s.keys) × (i ≡ 0) × (version (opening_store s.keys) k i ≡ opening_version)
  unfolding opening opening_store
  opening-version k i l = ((sound-opening s.keys).store.only-keys k i l, omega (arith, (sound-opening s.keys).store.few k), (opening-first (ltb k s.keys) i l).1)

  holds-opening : Holds 0 (opening_store s.keys)
  holds-opening = record {
    some_of = λ k. below k (dec_lt 0 (count (opening_store s.keys) k));
    written = λ k i p l. (λ x. let c = opening-count k in absurd (omega (arith, c)), λ (j, q, m, e). absurd (omega arith));
    value = λ k i l.
        let v = opening-version k i l in
        ap (λ (x : Version). x.value) v.2 ∙ sym (subst (λ (x : ℕ). (version s k x).value ≡ 0) (sym v.1) (h.first-value k (h.some-version k v.0)));
    writer = λ k i l.
        let v = opening-version k i l in
        ap (λ (x : Version). ν x.writer) v.2 ∙ names.opening ∙ sym (subst (λ (x : ℕ). (version s k x).writer ≡ 0) (sym v.1) (h.first-writer k (h.some-version k v.0)));
    readers = λ k i j l. (λ t. absurd (opening-unread s.keys j k i (l, t)), λ (p, m, x). absurd (omega arith));
  }
    where
      below : (k : Key) → Dec (0 < count (opening_store s.keys) k) → count (opening_store s.keys) k ≤ count s k
      below k (yes p) = let q = h.some-version k (opening-version k 0 p).0 in omega (arith, opening-count k, q)
      below k (no x) = omega arith

  -- ---- one commit more

  module _ (m : ℕ) (l : m < n) (x : Holds m (made_after s ν m)) where
    abbrev g : Store
    g = made_after s ν m

    abbrev t : CommitNumber
    t = ν (suc m)

    abbrev c : Commit
    c = commit_of s t

    abbrev u : View
    u = full_view g

    next-is : next_number g ≡ suc m
    next-is = ap suc (after-commits s ν m)

    t-commit : IsCommit s.commits t
    t-commit = names.commit (suc m) (omega arith) (omega arith)

    -- commits with a link to t are placed, t is not, and no placed commit has a link from t
    links-placed : (a : CommitNumber) → T (links s a t) → Placed m a
    links-placed a y = let z = earlier (suc m) (omega arith) (omega arith) a y in let q : z.0 < suc m = z.2 in (z.0, z.1, omega arith, z.3)

    t-unplaced : ¬ Placed m t
    t-unplaced (j, p, q, e) = let z = names.once j (suc m) (omega arith) (omega arith) e in omega (arith, z)

    not-before : (b : CommitNumber) → Placed m b → ¬ T (links s t b)
    not-before b (j, p, q, e) y =
        let z = earlier j p (omega arith) t (subst (λ (w : ℕ). T (links s t w)) (sym e) y) in
        let w : z.0 < j = z.2 in
        let v = names.once z.0 (suc m) (omega arith) (omega arith) z.3 in
        omega (arith, v)

    count-some : (k i : ℕ) → i < count s k → 0 < count g k
    count-some k i q = (after-sound s ν h.only-keys m).some-version k (subst (λ (w : ℕ). k < w) (sym (after-keys s ν m)) (h.only-keys k i q))

    -- t reads the last version
    pub read-last : (k i : ℕ) → Read s t k i → suc i ≡ count g k
    read-last k i r = both_ways (there i r) (dec_lt (suc i) (count g k))
      where
        there : (i : ℕ) → Read s t k i → i < count g k
        there zero r = count-some k 0 r.0
        there (suc i) r =
            let w = h.writers k (suc i) (omega arith) r.0 in
            (x.written k (suc i) (omega arith) r.0).1 (links-placed _ (link s h wr w t-commit (write_read (r.0, refl) r)))

        both_ways : i < count g k → Dec (suc i < count g k) → suc i ≡ count g k
        both_ways p (no q) = omega arith
        both_ways p (yes q) = absurd (over (ℕ_discrete t (version s k (suc i)).writer))
          where
            in-s : suc i < count s k
            in-s = omega (arith, x.some_of k)

            w-placed : Placed m (version s k (suc i)).writer
            w-placed = (x.written k (suc i) (omega arith) in-s).0 q

            over : Dec (t ≡ (version s k (suc i)).writer) → ⊥
            over (yes e) = t-unplaced (subst (Placed m) (sym e) w-placed)
            over (no d) = not-before _ w-placed (link s h rw-kind t-commit (h.writers k (suc i) (omega arith) in-s) (read-write {i = i} {j = suc i} r (in-s, refl) (omega arith) d))

    -- and writes the next
    write-last : (k i : ℕ) → Wrote s t k i → i ≡ count g k
    write-last k i w = go (dec_lt i (count g k)) (dec_lt (count g k) i)
      where
        p : 0 < i
        p = written-later s h t k i t-commit w

        go : Dec (i < count g k) → Dec (count g k < i) → i ≡ count g k
        go (no a) (no b) = omega arith
        go (yes a) b = absurd (t-unplaced (subst (Placed m) w.1 ((x.written k i p w.0).0 a)))
        go (no a) (yes b) =
            let q : count g k < count s k = let z = w.0 in omega (arith, z) in
            let some = count-some k i w.0 in
            let v = h.writers k (count g k) some q in
            let placed = links-placed _ (link s h ww v t-commit (write-write {j = i} (q, refl) w b)) in
            let z : count g k < count g k = (x.written k (count g k) some q).1 placed in
            absurd (omega arith)

    -- ---- what t does in the run

    pub reads_at : (k : Key) → T (reads c k) → (i : ℕ) × Read s t k i
    reads_at k y = (does-out s h.only-keys t read k y).1

    at_reads : (k i : ℕ) → Read s t k i → T (reads c k)
    at_reads k i r = is_some-some _ _ (does-in s h.only-keys t read k i r (λ j r'. h.reads-once t k i j r r'))

    writes_at : (k : Key) → T (writes c k) → (i : ℕ) × Wrote s t k i
    writes_at k y = let z = (does-out s h.only-keys t write k y).1 in (z.0, (z.1.0, (eq_is _ t).0 z.1.1))

    write-value : (k i : ℕ) → Wrote s t k i → value_of write c.operations k ≡ some (version s k i).value
    write-value k i w =
        does-in s h.only-keys t write k i (w.0, eq_test _ t w.1) (λ j d. h.writes-once k i j w.0 d.0 (w.1 ∙ sym ((eq_is _ t).0 d.1)))

    at-writes : (k i : ℕ) → Wrote s t k i → T (writes c k)
    at-writes k i w = is_some-some _ _ (write-value k i w)

    pub newest-is : (k : Key) → T (reads c k) → suc (newest u k) ≡ count g k
    newest-is k y = newest-last s ν h.only-keys m (omega arith) k (does-out s h.only-keys t read k y).0

    -- a version of the new store is an old one, or the one that t wrote
    place_of : (k i : ℕ) → i < count (update g u c) k → (i < count g k) ⊎ (Wrote s t k i × (i ≡ count g k))
    place_of k i q = go (T? (writes c k)) (dec_lt i (count g k))
      where
        go : Dec (T (writes c k)) → Dec (i < count g k) → (i < count g k) ⊎ (Wrote s t k i × (i ≡ count g k))
        go y (yes p) = inl p
        go (yes y) (no p) =
            let e : i ≡ count g k = omega (arith, count-written g u c k y) in
            let w = writes_at k y in
            inr (subst (λ (z : ℕ). Wrote s t k z) (write-last k w.0 w.1 ∙ sym e) w.1, e)
        go (no y) (no p) = absurd (omega (arith, count-unwritten g u c k y))

    grown : (k : Key) → count g k ≤ count (update g u c) k
    grown k = go (T? (writes c k))
      where
        go : Dec (T (writes c k)) → count g k ≤ count (update g u c) k
        go (yes y) = omega (arith, count-written g u c k y)
        go (no y) = omega (arith, count-unwritten g u c k y)

    some-of-more : (k : Key) → count (update g u c) k ≤ count s k
    some-of-more k = go (T? (writes c k))
      where
        go : Dec (T (writes c k)) → count (update g u c) k ≤ count s k
        go (yes y) = let w = writes_at k y in let q = w.1.0 in omega (arith, count-written g u c k y, write-last k w.0 w.1, q)
        go (no y) = omega (arith, count-unwritten g u c k y, x.some_of k)

    -- placed among one commit more
    placed-more : {a : CommitNumber} → Placed m a → Placed (suc m) a
    placed-more (j, p, q, e) = (j, p, omega arith, e)

    written-more : (k i : ℕ) → 0 < i → i < count s k → (i < count (update g u c) k) ↔ Placed (suc m) (version s k i).writer
    written-more k i p q = (λ y. out (place_of k i y), into)
      where
        out : (i < count g k) ⊎ (Wrote s t k i × (i ≡ count g k)) → Placed (suc m) (version s k i).writer
        out (inl y) = placed-more ((x.written k i p q).0 y)
        out (inr (w, e)) = (suc m, omega arith, omega arith, sym w.1)

        into : Placed (suc m) (version s k i).writer → i < count (update g u c) k
        into (j, a, b, e) = go (ℕ_discrete j (suc m))
          where
            go : Dec (j ≡ suc m) → i < count (update g u c) k
            go (yes z) =
                let w : Wrote s t k i = (q, sym e ∙ ap ν z) in
                omega (arith, write-last k i w, count-written g u c k (at-writes k i w))
            go (no z) = let y = (x.written k i p q).1 (j, a, omega arith, e) in omega (arith, grown k, y)

    value-more : (k i : ℕ) → i < count (update g u c) k → (version (update g u c) k i).value ≡ (version s k i).value
    value-more k i q = go (place_of k i q)
      where
        go : (i < count g k) ⊎ (Wrote s t k i × (i ≡ count g k)) → (version (update g u c) k i).value ≡ (version s k i).value
        go (inl y) = value-kept g u c k i y ∙ x.value k i y
        go (inr (w, e)) = ap (λ (z : ℕ). (version (update g u c) k z).value) e ∙ value-new g u c k _ (write-value k i w)

    writer-more : (k i : ℕ) → i < count (update g u c) k → ν (version (update g u c) k i).writer ≡ (version s k i).writer
    writer-more k i q = go (place_of k i q)
      where
        go : (i < count g k) ⊎ (Wrote s t k i × (i ≡ count g k)) → ν (version (update g u c) k i).writer ≡ (version s k i).writer
        go (inl y) = ap ν (wrote-stays g u c (version g k i).writer k i (y, refl)).1 ∙ x.writer k i y
        go (inr (w, e)) =
            ap (λ (z : ℕ). ν (version (update g u c) k z).writer) e
            ∙ ap ν ((wrote-new g u c k (at-writes k i w)).1 ∙ next-is) ∙ sym w.1

    readers-more : (k i j : ℕ) → i < count (update g u c) k
        → T (has (version (update g u c) k i).readers j) ↔ ((0 < j) × (j ≤ suc m) × T (has (version s k i).readers (ν j)))
    readers-more k i j q = (λ y. out (law.0 (q, y)), λ (p, b, y). (law.1 (into p b y (ℕ_discrete j (suc m)) (place_of k i q))).1)
      where
        law : Read (update g u c) j k i ↔ (Read g j k i ⊎ ((j ≡ next_number g) × T (reads c k) × (i ≡ newest u k)))
        law = read-update-is g u c (λ k y. omega (arith, newest-is k y)) j k i

        in-s : i < count s k
        in-s = omega (arith, some-of-more k)

        out : Read g j k i ⊎ ((j ≡ next_number g) × T (reads c k) × (i ≡ newest u k)) → (0 < j) × (j ≤ suc m) × T (has (version s k i).readers (ν j))
        out (inl r) = let y = (x.readers k i j r.0).0 r.1 in let b : j ≤ m = y.1 in (y.0, omega arith, y.2)
        out (inr (e, y, z)) =
            let r = reads_at k y in
            let e' : j ≡ suc m = e ∙ next-is in
            let i-is : r.0 ≡ i = omega (arith, read-last k r.0 r.1, newest-is k y) in (
              omega arith,
              omega arith,
              subst (λ (w : ℕ). T (has (version s k i).readers (ν w))) (sym e') (subst (λ (w : ℕ). T (has (version s k w).readers t)) i-is r.1.1),
            )

        into : 0 < j → j ≤ suc m → T (has (version s k i).readers (ν j)) → Dec (j ≡ suc m) → (i < count g k) ⊎ (Wrote s t k i × (i ≡ count g k))
            → Read g j k i ⊎ ((j ≡ next_number g) × T (reads c k) × (i ≡ newest u k))
        into p b y (yes e) z =
            let r : Read s t k i = (in-s, subst (λ (w : ℕ). T (has (version s k i).readers (ν w))) e y) in
            inr (e ∙ sym next-is, at_reads k i r, omega (arith, read-last k i r, newest-is k (at_reads k i r)))
        into p b y (no d) (inl old) = inl (old, (x.readers k i j old).1 (p, omega arith, y))
        into p b y (no d) (inr (w, e)) =
            absurd (not-before (ν j) (j, p, omega arith, refl) (link s h wr t-commit (names.commit j p (omega arith)) (write_read w (in-s, y))))

    holds_more : Holds (suc m) (update g u c)
    holds_more = record { some_of = some-of-more; written = written-more; value = value-more; writer = writer-more; readers = readers-more }

  pub holds : (m : ℕ) → m ≤ n → Holds m (made_after s ν m)
  unfolding made_after
  holds zero l = holds-opening
  holds (suc m) l = holds_more m (omega arith) (holds m (omega arith))

  -- ---- at the end

  abbrev done : Store
  done = made_after s ν n

  all-versions : (k : Key) → count done k ≡ count s k
  all-versions k = go (dec_lt (count done k) (count s k)) (dec_lt 0 (count done k))
    where
      go : Dec (count done k < count s k) → Dec (0 < count done k) → count done k ≡ count s k
      go (no x) d = omega (arith, (holds n (omega arith)).some_of k)
      go (yes x) (no y) =
          let p = (after-sound s ν h.only-keys n).some-version k (subst (λ (w : ℕ). k < w) (sym (after-keys s ν n)) (h.only-keys k (count done k) x)) in
          absurd (omega (arith, p))
      go (yes x) (yes y) =
          let p = ((holds n (omega arith)).written k (count done k) y x).1 (names.named _ (h.writers k (count done k) y x)) in
          absurd (omega (arith, p))

  readers-all : (k i : ℕ) → i < count s k → renamed_set ν (suc n) (version done k i).readers ≡ (version s k i).readers
  readers-all k i l = same-sets _ _ (λ c. same_test _ _ (out c) (into c))
    where
      there : i < count done k
      there = omega (arith, all-versions k)

      law : (j : ℕ) → T (has (version done k i).readers j) ↔ ((0 < j) × (j ≤ n) × T (has (version s k i).readers (ν j)))
      law j = (holds n (omega arith)).readers k i j there

      out : (c : ℕ) → T (has (renamed_set ν (suc n) (version done k i).readers) c) → T (has (version s k i).readers c)
      out c t = let x = renamed-has ν (suc n) _ c t in subst (λ (w : ℕ). T (has (version s k i).readers w)) x.3 ((law x.0).0 x.2).2

      into : (c : ℕ) → T (has (version s k i).readers c) → T (has (renamed_set ν (suc n) (version done k i).readers) c)
      into c t =
          let x = names.named c (h.readers k i c l t) in
          let b : x.0 ≤ n = x.2 in
          subst (λ (w : ℕ). T (has (renamed_set ν (suc n) (version done k i).readers) w)) x.3
          (has-renamed ν (suc n) _ x.0 (omega arith) ((law x.0).1 (x.1, x.2, subst (λ (w : ℕ). T (has (version s k i).readers w)) (sym x.3) t)))

  pub run-gives : (k : Key) → map (renamed ν n) (done.versions k) ≡ s.versions k
  unfolding renamed
  run-gives k =
      ext_get_or opening_version (map (renamed ν n) (done.versions k)) (s.versions k) (length-map (done.versions k) (renamed ν n) ∙ all-versions k)
      (λ i l.
      let there : i < count done k = subst (λ (w : ℕ). i < w) (length-map (done.versions k) (renamed ν n)) l in
      get_d_map (renamed ν n) (done.versions k) i opening_version opening_version there ∙ version-is i there (omega (arith, all-versions k)))
    where
      version-is : (i : ℕ) → i < count done k → i < count s k → renamed ν n (version done k i) ≡ version s k i
      version-is i there l = λ p. record { value = (holds n (omega arith)).value k i there p; writer = (holds n (omega arith)).writer k i there p; readers = readers-all k i l p }

-- an order in which each commit stands once and no link leads backwards gives the image
pub serial-order : (s : Store) → WellFormed s → (order : List CommitNumber) → EachOnce s.commits order → NoneBackwards (links s) order → IsOrder s order
serial-order s h order once back = record {
  each-once = once;
  in-number-order = rise;
  gives = run-gives s h (name_in order) (length order) few names earlier;
}
  where
    few : length order ≤ 63
    few = omega (arith, none-twice-few s.commits order once.only-commits once.none-twice, h.few-commits)

    names : Names s.commits (length order) (name_in order)
    names = order-names s.commits order once

    earlier : (j : ℕ) → 0 < j → j ≤ length order → (a : CommitNumber) → T (links s a (name_in order j)) → (i : ℕ) × (0 < i) × (i < j) × (name_in order i ≡ a)
    earlier zero p l a t = absurd (omega arith)
    earlier (suc j) p l a t = let x = back j (omega arith) a t in let q : x.0 < j = x.1 in (suc x.0, omega arith, omega arith, x.2)

    rise : (i j : ℕ) → i < j → j < length order → s.client_of (get_or order i 0) ≡ s.client_of (get_or order j 0)
        → s.session_of (get_or order i 0) < s.session_of (get_or order j 0)
    rise i j l m e = go (dec_lt (s.session_of (get_or order i 0)) (s.session_of (get_or order j 0))) (ℕ_discrete (s.session_of (get_or order i 0)) (s.session_of (get_or order j 0)))
      where
        ci : IsCommit s.commits (get_or order i 0)
        ci = once.only-commits i (omega arith)

        cj : IsCommit s.commits (get_or order j 0)
        cj = once.only-commits j m

        go : Dec (s.session_of (get_or order i 0) < s.session_of (get_or order j 0)) → Dec (s.session_of (get_or order i 0) ≡ s.session_of (get_or order j 0))
            → s.session_of (get_or order i 0) < s.session_of (get_or order j 0)
        go (yes x) d = x
        go (no x) (yes q) = let z = once.none-twice i j (omega arith) m (h.entries _ _ ci cj e q) in absurd (omega (arith, z))
        go (no x) (no q) =
            let y = back i (omega arith) (get_or order j 0) (link s h so cj ci (sym e, omega arith)) in
            let w : y.0 < i = y.1 in
            let z = once.none-twice y.0 j (omega arith) m y.2 in
            absurd (omega (arith, z))
