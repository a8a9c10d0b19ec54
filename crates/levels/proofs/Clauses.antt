-- Nothing is missing by a clause exactly where the clause's meaning holds. Clauses 3, 6 and 7 are one law with the links as a
-- parameter. Assumes nothing.
use mathlib.Core.Path.{◌≡◌, refl, sym, subst}
use mathlib.Core.Bool.{true}
use mathlib.Core.Logic.{◌⊎◌, inl, inr, ◌↔◌}
use mathlib.Core.Option.{none}
use Prim.Native.Nat.{ℕ, ◌<◌}
use native.Mathlib.Omega.{arith}
use lib.Dec.{T}
use Rattle.search.specs.Choose.{choose}
use Rattle.search.proofs.Tests.{same, and_is, or_is, eq_is}
use Rattle.search.proofs.Search.{any-is}
use Rattle.sets.specs.Set.{has}
use Rattle.relations.specs.Relation.{Relation}
use Rattle.relations.proofs.Closure.{Means}
use Rattle.dependencies.specs.History.{Holds, Closed, ReadYourWrites, MonotonicWrites, WriteFollowsReads, UpdateAtomic, ConsistentPrefix, SnapshotIsolation, Serialisable}
use Rattle.dependencies.specs.History as D
use Rattle.store.specs.Store.{CommitNumber, View, Store, count, version, next_number, Commit}
use Rattle.store.specs.Update.{writes, update}
use Rattle.store.specs.Missing.{missing}
use Rattle.store.specs.Links.{wrote, has_read, holds, SO, prefix_links, snapshot_links, one_or_more}
use Rattle.store.specs.Refusal.{all_of}
use Rattle.store.specs.History.{history, held}
use Rattle.store.proofs.Updated.{count-update}
use Rattle.store.specs.View.{IsView}
use Rattle.store.specs.Sound.{SoundStore}
use Rattle.store.proofs.Missing.{missing-none}
use Rattle.store.proofs.Links.{holds-means, so-means, prefix-paths, snapshot-paths}
use Rattle.levels.specs.Clause.{Clause, monotonic_reads, read_your_writes, monotonic_writes, writes_follow_reads, update_atomic, consistent_prefix, snapshot_isolation, serialisability, leading_to, read_before, session_writes, wants, missing_by}

-- what each clause says of a commit c made on view u of store s
abbrev pub Says : Store → View → Commit → Clause → Type 0
Says s u c monotonic_reads = (k i : ℕ) → held u k i → held c.view_after k i
Says s u c read_your_writes = ReadYourWrites (history (update s u c)) (held c.view_after) (next_number s)
Says s u c monotonic_writes = MonotonicWrites (history s) (held u)
Says s u c writes_follow_reads = WriteFollowsReads (history s) (held u)
Says s u c update_atomic = UpdateAtomic (history s) (held u) (λ k. T (writes c k))
Says s u c consistent_prefix = ConsistentPrefix (history s) (held u)
Says s u c snapshot_isolation = SnapshotIsolation (history s) (held u)
Says s u c serialisability = Serialisable (history s) (held u)

module _ (s : Store) (h : SoundStore s) (u : View) where
  -- clauses 3, 6 and 7, for any links
  leading-is : {R : ℕ → ℕ → Type 0} (r : Relation) → Means r R → (missing s (leading_to s u r) u ≡ none) ↔ Closed R (history s) (held u)
  unfolding leading_to
  leading-is {R} r m = (
    λ e a b hb p k i w. nothing.0 e k i (h.only-keys k i w.0) w.0 ((wanted k i).1 (b, h.writers b hb.0 hb.1 hb.3, (hb, subst (λ (x : ℕ). R x b) (sym w.1) p))),
    λ f. nothing.1 (λ k i l n x. let y = (wanted k i).0 x in f (version s k i).writer y.0 y.2.0 y.2.1 k i (n, refl)),
  )
    where
      nothing : (missing s (leading_to s u r) u ≡ none) ↔ ((k i : ℕ) → k < s.keys → i < count s k → T (leading_to s u r k i) → T (has (u k) i))
      nothing = missing-none s (leading_to s u r) u

      wanted : (k i : ℕ) → T (leading_to s u r k i) ↔ ((t : CommitNumber) × (t < next_number s) × (Holds (history s) (held u) t × R (version s k i).writer t))
      wanted k i = any-is (next_number s) _ (λ t. and_is (holds s u t) _ (holds-means s h u t) (m (version s k i).writer t))

  read-before-is : (missing s (read_before s u) u ≡ none) ↔ WriteFollowsReads (history s) (held u)
  unfolding read_before
  read-before-is = (
    λ e b hb. (λ k i r. at e k i r.0 b hb (inl r.1), λ a k i o r. at e k i r.0 b hb (inr (a, h.readers a k i r, (o, r.1)))),
    λ f. nothing.1 (λ k i l n x. let y = (wanted k i).0 x in back f k i n y.0 y.2.0 y.2.1),
  )
    where
      Reader : ℕ → ℕ → ℕ → Type 0
      Reader k i b = T (has_read s b k i) ⊎ ((a : CommitNumber) × (a < next_number s) × (D.SO (history s) a b × T (has_read s a k i)))

      nothing : (missing s (read_before s u) u ≡ none) ↔ ((k i : ℕ) → k < s.keys → i < count s k → T (read_before s u k i) → T (has (u k) i))
      nothing = missing-none s (read_before s u) u

      wanted : (k i : ℕ) → T (read_before s u k i) ↔ ((b : CommitNumber) × (b < next_number s) × (Holds (history s) (held u) b × Reader k i b))
      wanted k i =
          any-is (next_number s) _ (λ b. and_is (holds s u b) _ (holds-means s h u b)
          (or_is (has_read s b k i) _ same (any-is (next_number s) _ (λ a. and_is (SO s a b) (has_read s a k i) (so-means s h a b) same))))

      at : missing s (read_before s u) u ≡ none → (k i : ℕ) → i < count s k → (b : CommitNumber) → Holds (history s) (held u) b → Reader k i b → held u k i
      at e k i l b hb x = nothing.0 e k i (h.only-keys k i l) l ((wanted k i).1 (b, h.writers b hb.0 hb.1 hb.3, (hb, x)))

      back : WriteFollowsReads (history s) (held u) → (k i : ℕ) → i < count s k → (b : CommitNumber) → Holds (history s) (held u) b → Reader k i b → held u k i
      back f k i l b hb (inl x) = (f b hb).0 k i (l, x)
      back f k i l b hb (inr (a, n, (o, x))) = (f b hb).1 a k i o (l, x)

  -- clause 2, of any commit t of the store
  session-writes-is : (t : CommitNumber) → (missing s (session_writes s t) u ≡ none) ↔ ReadYourWrites (history s) (held u) t
  unfolding session_writes
  session-writes-is t = (
    λ e. (λ k i w. at e k i w.0 (inl w.1), λ a o k i w. at e k i w.0 (inr (subst (λ (x : ℕ). D.SO (history s) x t) (sym w.1) o))),
    λ f. nothing.1 (λ k i l n x. back f k i n ((wanted k i).0 x)),
  )
    where
      By : ℕ → ℕ → Type 0
      By k i = ((version s k i).writer ≡ t) ⊎ D.SO (history s) (version s k i).writer t

      nothing : (missing s (session_writes s t) u ≡ none) ↔ ((k i : ℕ) → k < s.keys → i < count s k → T (session_writes s t k i) → T (has (u k) i))
      nothing = missing-none s (session_writes s t) u

      wanted : (k i : ℕ) → T (session_writes s t k i) ↔ By k i
      wanted k i = or_is (wrote s t k i) _ (eq_is _ t) (so-means s h (version s k i).writer t)

      at : missing s (session_writes s t) u ≡ none → (k i : ℕ) → i < count s k → By k i → held u k i
      at e k i l x = nothing.0 e k i (h.only-keys k i l) l ((wanted k i).1 x)

      back : ReadYourWrites (history s) (held u) t → (k i : ℕ) → i < count s k → By k i → held u k i
      back f k i l (inl e) = f.0 k i (l, e)
      back f k i l (inr o) = f.1 _ o k i (l, refl)

module _ (s : Store) (h : SoundStore s) (u : View) (v : IsView s u) (c : Commit) (h' : SoundStore (update s u c)) where
  pub clause-is : (x : Clause) → (missing_by s u c x ≡ none) ↔ Says s u c x
  unfolding missing_by wants choose
  clause-is monotonic_reads =
      let m = missing-none (update s u c) (all_of u) c.view_after in (
        λ e k i b. let l : i < count (update s u c) k = let l' : i < count s k = v.exist k i b in omega (arith, count-update s u c k) in m.0 e k i (h'.only-keys k i l) l b,
        λ f. m.1 (λ k i l n b. f k i b),
      )
  clause-is read_your_writes = session-writes-is (update s u c) h' c.view_after (next_number s)
  clause-is monotonic_writes = leading-is s h u (SO s) (so-means s h)
  clause-is writes_follow_reads = read-before-is s h u
  clause-is update_atomic =
      let m = missing-none s (λ k i. writes c k) u in (
        λ e a k i w x. m.0 e k i (h.only-keys k i x.0) x.0 w,
        λ f. m.1 (λ k i l n w. f (version s k i).writer k i w (n, refl)),
      )
  clause-is consistent_prefix = leading-is s h u (one_or_more s (prefix_links s)) (prefix-paths s h)
  clause-is snapshot_isolation = leading-is s h u (one_or_more s (snapshot_links s)) (snapshot-paths s h)
  clause-is serialisability =
      let m = missing-none s (λ k i. true) u in (
        λ e a k i x. m.0 e k i (h.only-keys k i x.0) x.0 tt,
        λ f. m.1 (λ k i l n w. f (version s k i).writer k i (n, refl)),
      )
