-- The history of a store, and that each test of specs/Links.antt says what the link means. Assumes nothing.
use mathlib.Core.Path.{◌≡◌, refl}
use mathlib.Core.Bool.{Bool, ◌&&◌, not}
use mathlib.Core.Logic.{inl, inr, ◌↔◌, ◌≢◌}
use Prim.Native.Nat.{ℕ, ◌<◌}
use native.Mathlib.Omega.{arith}
use lib.Dec.{T, eqb, ltb}
use Rattle.search.specs.Search.{any}
use Rattle.search.proofs.Tests.{same, both, and_is, not_is, eq_is, lt-is}
use Rattle.search.proofs.Search.{any-is}
use Rattle.relations.specs.Relation.{Relation, union, ThenMaybe, Plus}
use Rattle.relations.specs.Within.{Within}
use Rattle.relations.proofs.Within.{LeadsTo, within-is-plus}
use Rattle.relations.proofs.Closure.{Means, Below, union-means, then_maybe-means, plus-means-as}
use Rattle.dependencies.specs.History.{History, Stored, StoredBelow, as-writer, as-reader, session-order, write_read, write-write, read-write, by-SO, by-WR, by-WW, PrefixStep, SnapshotStep, Holds}
use Rattle.dependencies.specs.History as D
use Rattle.dependencies.proofs.Bounds.{SO-below, WR-below, WW-below, prefix-below, snapshot-below, prefix-from-below, snapshot-from-below}
use Rattle.dependencies.proofs.Implications.{ReadsWritten, snapshot_step-is}
use Rattle.dependencies.proofs.Rings.{LinkThat}
use Rattle.store.specs.Store.{Key, VersionNumber, CommitNumber, View, Store, count, version, next_number}
use Rattle.store.specs.Missing.{Rule}
use Rattle.store.specs.Links.{wrote, has_read, stored, holds, SO, WR, earlier_later, WW, RW, LinkKind, so, wr, ww, rw as rw-kind, linked, is_rw, with_rw, prefix_links, snapshot_links, one_or_more}
use Rattle.store.specs.History.{Appears, history, held}
use Rattle.store.specs.Sound.{SoundStore}
use Rattle.store.proofs.Missing.{somewhere-is}
use Rattle.store.proofs.Legal.{stored_is, holds-is}

pub reads-written : (s : Store) → ReadsWritten (history s)
reads-written s b k i r = (_, (r.0, refl))

pub appears-stored : (s : Store) (t : CommitNumber) → Appears s t ↔ Stored (history s) t
appears-stored s t = (out, into)
  where
    out : Appears s t → Stored (history s) t
    out (k, i, l, inl e) = as-writer (l, e)
    out (k, i, l, inr r) = as-reader (l, r)

    into : Stored (history s) t → Appears s t
    into (as-writer w) = (_, _, w.0, inl w.1)
    into (as-reader r) = (_, _, r.0, inr r.1)

pub stored-below : (s : Store) → SoundStore s → StoredBelow (next_number s) (history s)
stored-below s h a (as-writer w) = h.writers a _ _ w
stored-below s h a (as-reader r) = h.readers a _ _ r

module _ (s : Store) (h : SoundStore s) where
  pub holds-means : (u : View) (t : CommitNumber) → T (holds s u t) ↔ Holds (history s) (held u) t
  holds-means u t = both (holds-is s h u t) (λ (k, i, l, (x, e)). (k, i, x, (l, e)), λ (k, i, x, w). (k, i, w.0, (x, w.1)))

  pub so-means : Means (SO s) (D.SO (history s))
  unfolding SO
  so-means a b = both
      (and_is (stored s a && stored s b) _
      (and_is (stored s a) (stored s b) (both (stored_is s h a) (appears-stored s a)) (both (stored_is s h b) (appears-stored s b)))
      (and_is (ltb 0 a && ltb 0 b) (eqb (s.client_of a) (s.client_of b) && ltb (s.session_of a) (s.session_of b))
      (and_is (ltb 0 a) (ltb 0 b) (lt-is 0 a) (lt-is 0 b))
      (and_is (eqb (s.client_of a) (s.client_of b)) (ltb (s.session_of a) (s.session_of b)) (eq_is _ _) (lt-is _ _))))
      (λ x. session-order x.0.0 x.0.1 x.1.0.0 x.1.0.1 x.1.1.0 x.1.1.1, back)
    where
      back : D.SO (history s) a b
          → (Stored (history s) a × Stored (history s) b) × (((0 < a) × (0 < b)) × ((s.client_of a ≡ s.client_of b) × (s.session_of a < s.session_of b)))
      back (session-order x y p q e l) = ((x, y), ((p, q), (e, l)))

  pub wr-means : Means (WR s) (D.WR (history s))
  unfolding WR
  wr-means a b = both
      (somewhere-is s h (λ k i. wrote s a k i && has_read s b k i) (λ k i. and_is (wrote s a k i) (has_read s b k i) (eq_is _ a) same))
      (λ (k, i, l, (x, y)). write_read (l, x) (l, y), back)
    where
      back : D.WR (history s) a b → (k : Key) × (i : VersionNumber) × (i < count s k) × (((version s k i).writer ≡ a) × T (has_read s b k i))
      back (write_read w r) = (_, _, w.0, (w.1, r.1))

  -- an earlier version by one rule and a later one by another
  earlier-later-is : {P Q : ℕ → ℕ → Type 0} (f g : Rule) → ((k i : ℕ) → T (f k i) ↔ P k i) → ((k i : ℕ) → T (g k i) ↔ Q k i)
      → T (earlier_later s f g) ↔ ((k : Key) × (j : VersionNumber) × (j < count s k) × ((i : VersionNumber) × (i < j) × (P k i × Q k j)))
  earlier-later-is f g p q = somewhere-is s h (λ k j. any j (λ i. f k i && g k j)) (λ k j. any-is j (λ i. f k i && g k j) (λ i. and_is (f k i) (g k j) (p k i) (q k j)))

  pub ww-means : Means (WW s) (D.WW (history s))
  unfolding WW
  ww-means a b = both (earlier-later-is (wrote s a) (wrote s b) (λ k i. eq_is _ a) (λ k i. eq_is _ b)) (out, back)
    where
      Two : Type 0
      Two = (k : Key) × (j : VersionNumber) × (j < count s k) × ((i : VersionNumber) × (i < j) × (((version s k i).writer ≡ a) × ((version s k j).writer ≡ b)))

      out : Two → D.WW (history s) a b
      out (k, j, l, (i, m, (x, y))) = write-write {k = k} {i = i} {j = j} (omega arith, x) (l, y) m

      back : D.WW (history s) a b → Two
      back (write-write w v m) = (_, _, v.0, (_, m, (w.1, v.1)))

  pub rw-means : Means (RW s) (D.RW (history s))
  unfolding RW
  rw-means a b = both
      (and_is (not (eqb a b)) _ (not_is (eqb a b) (eq_is a b)) (earlier-later-is (has_read s a) (wrote s b) (λ k i. same) (λ k i. eq_is _ b)))
      (out, back)
    where
      Two : Type 0
      Two = (a ≢ b) × ((k : Key) × (j : VersionNumber) × (j < count s k) × ((i : VersionNumber) × (i < j) × (T (has_read s a k i) × ((version s k j).writer ≡ b))))

      out : Two → D.RW (history s) a b
      out (n, (k, j, l, (i, m, (x, y)))) = read-write {k = k} {i = i} {j = j} (omega arith, x) (l, y) m n

      back : D.RW (history s) a b → Two
      back (read-write r w m n) = (n, (_, _, w.0, (_, m, (r.1, w.1))))

  -- a link of each kind: by its kind, RW or not
  pub link-means : (kind : LinkKind) (a b : CommitNumber) → T (linked s kind a b) → LinkThat (history s) (is_rw kind) a b
  link-means so a b x = by-SO ((so-means a b).0 x)
  link-means wr a b x = by-WR ((wr-means a b).0 x)
  link-means ww a b x = by-WW ((ww-means a b).0 x)
  link-means rw-kind a b x = (rw-means a b).0 x

  -- R;RW?
  with-rw-means : {R : ℕ → ℕ → Type 0} (r : Relation) → Means r R → Below (next_number s) R → Means (with_rw s r) (ThenMaybe R (D.RW (history s)))
  with-rw-means r m l = then_maybe-means r (RW s) m rw-means (next_number s) l

  abbrev below : StoredBelow (next_number s) (history s)
  below = stored-below s h

  prefix-means : Means (prefix_links s) (PrefixStep (history s))
  unfolding prefix_links
  prefix-means =
      union-means (with_rw s (SO s)) (union (with_rw s (WR s)) (WW s))
      (with-rw-means (SO s) so-means (SO-below (next_number s) (history s) below))
      (union-means (with_rw s (WR s)) (WW s) (with-rw-means (WR s) wr-means (WR-below (next_number s) (history s) below)) ww-means)

  snapshot-means : Means (snapshot_links s) (SnapshotStep (history s))
  unfolding snapshot_links
  snapshot-means a b = both
      (union-means (with_rw s (SO s)) (union (with_rw s (WR s)) (with_rw s (WW s)))
      (with-rw-means (SO s) so-means (SO-below (next_number s) (history s) below))
      (union-means (with_rw s (WR s)) (with_rw s (WW s))
      (with-rw-means (WR s) wr-means (WR-below (next_number s) (history s) below))
      (with-rw-means (WW s) ww-means (WW-below (next_number s) (history s) below)))
      a b)
      (snapshot_step-is (history s) a b)

  -- the paths of clauses 6 and 7, named from the one fact about any set of links
  pub prefix-paths : Means (one_or_more s (prefix_links s)) (Plus (PrefixStep (history s)))
  prefix-paths = plus-means-as (next_number s) (prefix_links s) prefix-means (prefix-below (next_number s) (history s) below)

  pub snapshot-paths : Means (one_or_more s (snapshot_links s)) (Plus (SnapshotStep (history s)))
  snapshot-paths = plus-means-as (next_number s) (snapshot_links s) snapshot-means (snapshot-below (next_number s) (history s) below)

  -- and within as many links as there are commit numbers
  module _ {S : ℕ → Type 0} (set : ℕ → Bool) (is_set : (a : ℕ) → T (set a) ↔ S a) where
    pub prefix-within : (a : CommitNumber) → Within (PrefixStep (history s)) S (next_number s) a ↔ LeadsTo (PrefixStep (history s)) S a
    prefix-within =
        within-is-plus _ S (next_number s) (prefix_links s) prefix-means set is_set (prefix-from-below (next_number s) (history s) below) (prefix-below (next_number s) (history s) below)

    pub snapshot-within : (a : CommitNumber) → Within (SnapshotStep (history s)) S (next_number s) a ↔ LeadsTo (SnapshotStep (history s)) S a
    snapshot-within =
        within-is-plus _ S (next_number s) (snapshot_links s) snapshot-means set is_set (snapshot-from-below (next_number s) (history s) below) (snapshot-below (next_number s) (history s) below)
