-- What a commit changes in the versions of one key, and in the tables. Callers reach `update` through these laws. Assumes nothing.
use mathlib.Core.Path.{◌≡◌, refl, sym, ap, ◌∙◌, subst}
use mathlib.Core.Bool.{true}
use mathlib.Core.Logic.{◌⊎◌, inl, inr, ◌↔◌, ◌≢◌}
use mathlib.Core.Option.{Option, some, none}
use mathlib.Core.List.{List, []}
use Prim.Native.Nat.{ℕ, suc, ◌≤◌, ◌<◌}
use native.Mathlib.Omega.{arith}
use native.Mathlib.Decide.{ℕ_discrete, dec_lt}
use lib.Dec.{T}
use lib.ListN.{length, get_or, set, length-append, length-set, get_or-append}
use lib.Seq.{get_or-set_same, get_or-set_other, get_or-append_seam}
use Rattle.search.specs.Choose.{is_some}
use Rattle.search.proofs.Choose.{choose-same, choose-other}
use Rattle.sets.specs.Set.{has}
use Rattle.sets.proofs.Laws.{insert-has, has-insert, insert-self, has-none}
use Rattle.store.specs.Store.{Key, CommitNumber, Value, Version, opening_version, View, Store, count, version, next_number, read, write, Commit}
use Rattle.store.specs.Update.{value_of, reads, writes, newest, read_by, note_read, append, at_number, update}
use Rattle.store.specs.History.{Wrote, Read}

-- ---- tables

pub at_same : {A : Type 0} (n : ℕ) (a : A) (f : ℕ → A) → at_number n a f n ≡ a
at_same n a f = choose-same n a (f n)

pub at_other : {A : Type 0} (n : ℕ) (a : A) (f : ℕ → A) (m : ℕ) → m ≢ n → at_number n a f m ≡ f m
at_other n a f m h = choose-other m n a (f m) h

-- ---- a read noted at one version

pub note-length : (o : Option Value) (p t : ℕ) (vs : List Version) → length (note_read o p t vs) ≡ length vs
unfolding note_read
note-length none p t vs = refl
note-length (some x) p t vs = length-set vs p _

note-at : (o : Option Value) (p t : ℕ) (vs : List Version) (i : ℕ) → i < length vs
    → (get_or (note_read o p t vs) i opening_version ≡ get_or vs i opening_version)
    ⊎ (T (is_some o) × (i ≡ p) × (get_or (note_read o p t vs) i opening_version ≡ read_by t (get_or vs i opening_version)))
unfolding note_read is_some
note-at none p t vs i h = inl refl
note-at (some x) p t vs i h = go (ℕ_discrete i p)
  where
    go : Dec (i ≡ p) → (get_or (set vs p (read_by t (get_or vs p opening_version))) i opening_version ≡ get_or vs i opening_version)
        ⊎ (T true × (i ≡ p) × (get_or (set vs p (read_by t (get_or vs p opening_version))) i opening_version ≡ read_by t (get_or vs i opening_version)))
    go (yes e) = inr (tt, e, rw (e, get_or-set_same vs p _ opening_version (subst (λ (x : ℕ). x < length vs) e h)))
    go (no n) = inl (get_or-set_other vs p i _ opening_version n)

-- the writers stay, and so do the readers
pub note-writer : (o : Option Value) (p t : ℕ) (vs : List Version) (i : ℕ) → i < length vs
    → (get_or (note_read o p t vs) i opening_version).writer ≡ (get_or vs i opening_version).writer
note-writer o p t vs i h = go (note-at o p t vs i h)
  where
    go : (get_or (note_read o p t vs) i opening_version ≡ get_or vs i opening_version)
        ⊎ (T (is_some o) × (i ≡ p) × (get_or (note_read o p t vs) i opening_version ≡ read_by t (get_or vs i opening_version)))
        → (get_or (note_read o p t vs) i opening_version).writer ≡ (get_or vs i opening_version).writer
    go (inl e) = ap (λ (v : Version). v.writer) e
    go (inr (_, _, e)) = ap (λ (v : Version). v.writer) e

note-reader : (o : Option Value) (p t : ℕ) (vs : List Version) (i : ℕ) → i < length vs → (b : CommitNumber)
    → T (has (get_or vs i opening_version).readers b) → T (has (get_or (note_read o p t vs) i opening_version).readers b)
note-reader o p t vs i h b r = go (note-at o p t vs i h)
  where
    go : (get_or (note_read o p t vs) i opening_version ≡ get_or vs i opening_version)
        ⊎ (T (is_some o) × (i ≡ p) × (get_or (note_read o p t vs) i opening_version ≡ read_by t (get_or vs i opening_version)))
        → T (has (get_or (note_read o p t vs) i opening_version).readers b)
    go (inl e) = subst (λ (v : Version). T (has v.readers b)) (sym e) r
    go (inr (_, _, e)) = subst (λ (v : Version). T (has v.readers b)) (sym e) (has-insert t (get_or vs i opening_version).readers b r)

-- and the reader is among those of the version that it read
note-new : (o : Option Value) (p t : ℕ) (vs : List Version) → p < length vs → T (is_some o) → T (has (get_or (note_read o p t vs) p opening_version).readers t)
unfolding note_read is_some
note-new none p t vs h r = absurd r
note-new (some x) p t vs h r =
    subst (λ (v : Version). T (has v.readers t)) (sym (get_or-set_same vs p _ opening_version h)) (insert-self t (get_or vs p opening_version).readers)

-- ---- a version appended

pub append-length : (o : Option Value) (t : ℕ) (vs : List Version)
    → (length vs ≤ length (append o t vs)) × (length (append o t vs) ≤ suc (length vs))
unfolding append
append-length none t vs = (omega arith, omega arith)
append-length (some x) t vs = (simp length-append (omega arith), simp length-append (omega arith))

-- an old place keeps its version; a new one is the last, by this commit, with no readers
data Appended (o : Option Value) (t : ℕ) (vs : List Version) (i : ℕ) : Type 0 where
  old : i < length vs → get_or (append o t vs) i opening_version ≡ get_or vs i opening_version → Appended o t vs i
  new : T (is_some o) → i ≡ length vs → ((get_or (append o t vs) i opening_version).writer ≡ t) → ((get_or (append o t vs) i opening_version).readers ≡ 0) → Appended o t vs i

appended : (o : Option Value) (t : ℕ) (vs : List Version) (i : ℕ) → i < length (append o t vs) → Appended o t vs i
unfolding append is_some
appended none t vs i h = old h refl
appended (some x) t vs i h = go (dec_lt i (length vs))
  where
    go : Dec (i < length vs) → Appended (some x) t vs i
    go (yes l) = old l (get_or-append vs _ opening_version i l)
    go (no n) =
        let e : i ≡ length vs = omega (arith, simp length-append at h) in
        let s = get_or-append_seam vs (record { value = x; writer = t; readers = 0 }) [] opening_version in
        new tt e (rw e (ap (λ (v : Version). v.writer) s)) (rw e (ap (λ (v : Version). v.readers) s))

pub append-old : (o : Option Value) (t : ℕ) (vs : List Version) (i : ℕ) → i < length vs → get_or (append o t vs) i opening_version ≡ get_or vs i opening_version
unfolding append
append-old none t vs i h = refl
append-old (some x) t vs i h = get_or-append vs _ opening_version i h

-- where something is written the list is longer by one, and its last version is by this commit
append-longer : (o : Option Value) (t : ℕ) (vs : List Version) → T (is_some o) → length (append o t vs) ≡ suc (length vs)
unfolding append is_some
append-longer none t vs h = absurd h
append-longer (some x) t vs h = simp length-append (omega arith)

append-last : (o : Option Value) (t : ℕ) (vs : List Version) → T (is_some o) → (get_or (append o t vs) (length vs) opening_version).writer ≡ t
unfolding append is_some
append-last none t vs h = absurd h
append-last (some x) t vs h = ap (λ (v : Version). v.writer) (get_or-append_seam vs (record { value = x; writer = t; readers = 0 }) [] opening_version)

-- where nothing is, the list stays
pub append-none : (o : Option Value) (t : ℕ) (vs : List Version) → ¬ T (is_some o) → append o t vs ≡ vs
unfolding append is_some
append-none none t vs h = refl
append-none (some x) t vs h = absurd (h tt)

-- ---- the whole commit

module _ (s : Store) (u : View) (c : Commit) where
  abbrev noted : Key → List Version
  noted k = note_read (value_of read c.operations k) (newest u k) (next_number s) (s.versions k)

  -- a key gains one version at most
  pub count-update : (k : Key) → (count s k ≤ count (update s u c) k) × (count (update s u c) k ≤ suc (count s k))
  unfolding update
  count-update k =
      let n = note-length (value_of read c.operations k) (newest u k) (next_number s) (s.versions k) in
      let a = append-length (value_of write c.operations k) (next_number s) (noted k) in
      (omega arith, omega arith)

  -- a version is by its old writer, or by this commit and the last
  pub wrote-update : (t k i : ℕ) → Wrote (update s u c) t k i → Wrote s t k i ⊎ ((t ≡ next_number s) × T (writes c k) × (i ≡ count s k))
  unfolding update
  wrote-update t k i (l, e) = go (appended (value_of write c.operations k) (next_number s) (noted k) i l)
    where
      n : length (noted k) ≡ count s k
      n = note-length (value_of read c.operations k) (newest u k) (next_number s) (s.versions k)

      fin : i < count s k → version (update s u c) k i ≡ get_or (noted k) i opening_version
          → (get_or (noted k) i opening_version ≡ version s k i) ⊎ (T (reads c k) × (i ≡ newest u k) × (get_or (noted k) i opening_version ≡ read_by (next_number s) (version s k i)))
          → Wrote s t k i
      fin h q (inl r) = (h, ap (λ (v : Version). v.writer) (sym r ∙ sym q) ∙ e)
      fin h q (inr (_, _, r)) = (h, ap (λ (v : Version). v.writer) (sym r ∙ sym q) ∙ e)

      go : Appended (value_of write c.operations k) (next_number s) (noted k) i → Wrote s t k i ⊎ ((t ≡ next_number s) × T (writes c k) × (i ≡ count s k))
      go (old h q) = let h' : i < count s k = omega (arith, n) in inl (fin h' q (note-at (value_of read c.operations k) (newest u k) (next_number s) (s.versions k) i h'))
      go (new w j q r) = inr (sym e ∙ q, w, j ∙ n)

  -- a version is read by its old readers, or by this commit where it reads the newest that it sees
  pub read-update : (t k i : ℕ) → Read (update s u c) t k i → Read s t k i ⊎ ((t ≡ next_number s) × T (reads c k) × (i ≡ newest u k))
  unfolding update
  read-update t k i (l, h) = go (appended (value_of write c.operations k) (next_number s) (noted k) i l)
    where
      n : length (noted k) ≡ count s k
      n = note-length (value_of read c.operations k) (newest u k) (next_number s) (s.versions k)

      by : T (reads c k) → i ≡ newest u k → i < count s k → T (has (version s k i).readers t) ⊎ (t ≡ next_number s)
          → Read s t k i ⊎ ((t ≡ next_number s) × T (reads c k) × (i ≡ newest u k))
      by r j l' (inl x) = inl (l', x)
      by r j l' (inr x) = inr (x, r, j)

      fin : i < count s k → version (update s u c) k i ≡ get_or (noted k) i opening_version
          → (get_or (noted k) i opening_version ≡ version s k i) ⊎ (T (reads c k) × (i ≡ newest u k) × (get_or (noted k) i opening_version ≡ read_by (next_number s) (version s k i)))
          → Read s t k i ⊎ ((t ≡ next_number s) × T (reads c k) × (i ≡ newest u k))
      fin l' q (inl r) = inl (l', subst (λ (v : Version). T (has v.readers t)) (q ∙ r) h)
      fin l' q (inr (rd, j, r)) = by rd j l' (insert-has (next_number s) (version s k i).readers t (subst (λ (v : Version). T (has v.readers t)) (q ∙ r) h))

      go : Appended (value_of write c.operations k) (next_number s) (noted k) i → Read s t k i ⊎ ((t ≡ next_number s) × T (reads c k) × (i ≡ newest u k))
      go (old l' q) = let l'' : i < count s k = omega (arith, n) in fin l'' q (note-at (value_of read c.operations k) (newest u k) (next_number s) (s.versions k) i l'')
      go (new w j q r) = absurd (has-none t (subst (λ (m : ℕ). T (has m t)) r h))

  -- a key without an operation keeps its versions
  pub untouched : (k : Key) → ¬ T (reads c k) → ¬ T (writes c k) → (update s u c).versions k ≡ s.versions k
  unfolding update is_some append note_read
  untouched k nr nw = go (value_of read c.operations k) (value_of write c.operations k) nr nw
    where
      go : (r w : Option Value) → ¬ T (is_some r) → ¬ T (is_some w) → append w (next_number s) (note_read r (newest u k) (next_number s) (s.versions k)) ≡ s.versions k
      go (some x) w n m = absurd (n tt)
      go none (some y) n m = absurd (m tt)
      go none none n m = refl

  -- ---- and back: what the laws above allow is so

  noted-length : (k : Key) → length (noted k) ≡ count s k
  noted-length k = note-length (value_of read c.operations k) (newest u k) (next_number s) (s.versions k)

  -- the count of a key rises by one where the commit writes it
  pub count-written : (k : Key) → T (writes c k) → count (update s u c) k ≡ suc (count s k)
  unfolding update
  count-written k w = append-longer (value_of write c.operations k) (next_number s) (noted k) w ∙ ap suc (noted-length k)

  -- and stays elsewhere
  pub count-unwritten : (k : Key) → ¬ T (writes c k) → count (update s u c) k ≡ count s k
  unfolding update
  count-unwritten k n = ap length (append-none (value_of write c.operations k) (next_number s) (noted k) n) ∙ noted-length k

  -- a version that was there is after the commit what it was, but for the reader that was noted
  version-kept : (k i : ℕ) → i < count s k → version (update s u c) k i ≡ get_or (noted k) i opening_version
  unfolding update
  version-kept k i l = append-old (value_of write c.operations k) (next_number s) (noted k) i (omega (arith, noted-length k))

  -- what a commit wrote or read before it wrote or read after
  pub wrote-stays : (t k i : ℕ) → Wrote s t k i → Wrote (update s u c) t k i
  wrote-stays t k i (l, e) = (
    omega (arith, (count-update k).0),
    ap (λ (v : Version). v.writer) (version-kept k i l) ∙ note-writer (value_of read c.operations k) (newest u k) (next_number s) (s.versions k) i l ∙ e,
  )

  pub read_stays : (t k i : ℕ) → Read s t k i → Read (update s u c) t k i
  read_stays t k i (l, r) = (
    omega (arith, (count-update k).0),
    subst (λ (v : Version). T (has v.readers t)) (sym (version-kept k i l))
        (note-reader (value_of read c.operations k) (newest u k) (next_number s) (s.versions k) i l t r),
  )

  -- the new version of a key that the commit writes is by this commit
  pub wrote-new : (k : Key) → T (writes c k) → Wrote (update s u c) (next_number s) k (count s k)
  unfolding update
  wrote-new k w = (
    omega (arith, count-written k w),
    subst (λ (i : ℕ). (version (update s u c) k i).writer ≡ next_number s) (noted-length k) (append-last (value_of write c.operations k) (next_number s) (noted k) w),
  )

  -- and this commit reads the newest version that it sees
  pub read-new : (k : Key) → T (reads c k) → newest u k < count s k → Read (update s u c) (next_number s) k (newest u k)
  read-new k r l = (
    omega (arith, (count-update k).0),
    subst (λ (v : Version). T (has v.readers (next_number s))) (sym (version-kept k (newest u k) l))
        (note-new (value_of read c.operations k) (newest u k) (next_number s) (s.versions k) l r),
  )

  -- so: who wrote which version after the commit
  pub wrote-update-is : (t k i : ℕ) → Wrote (update s u c) t k i ↔ (Wrote s t k i ⊎ ((t ≡ next_number s) × T (writes c k) × (i ≡ count s k)))
  wrote-update-is t k i = (wrote-update t k i, back)
    where
      back : Wrote s t k i ⊎ ((t ≡ next_number s) × T (writes c k) × (i ≡ count s k)) → Wrote (update s u c) t k i
      back (inl w) = wrote-stays t k i w
      back (inr (e, w, j)) = rw (e, j) (wrote-new k w)

  -- and who read which
  pub read-update-is : ((k : Key) → T (reads c k) → newest u k < count s k)
      → (t k i : ℕ) → Read (update s u c) t k i ↔ (Read s t k i ⊎ ((t ≡ next_number s) × T (reads c k) × (i ≡ newest u k)))
  read-update-is there t k i = (read-update t k i, back)
    where
      back : Read s t k i ⊎ ((t ≡ next_number s) × T (reads c k) × (i ≡ newest u k)) → Read (update s u c) t k i
      back (inl r) = read_stays t k i r
      back (inr (e, r, j)) = rw (e, j) (read-new k r (there k r))
