-- What is missing by each clause, as the searches of crate views find it. Assumes nothing.
use Prim.Native.Nat.{ℕ, ◌^◌, ◌<◌}
use mathlib.Core.Path.{◌≡◌, refl, sym, ap, ◌∙◌, subst}
use mathlib.Core.Bool.{true}
use mathlib.Core.Logic.{◌⊎◌, inl, inr, ◌↔◌, ◌≢◌}
use mathlib.Core.Option.{Option}
use mathlib.Core.List.{List}
use native.Mathlib.Omega.{arith}
use lib.Dec.{T}
use lib.Bits.{bit_and}
use Rattle.search.specs.Choose.{choose}
use Rattle.search.proofs.Tests.{same, both, and_is, or_is, eq_is}
use Rattle.search.proofs.Search.{any-is}
use Rattle.sets.specs.Set.{Set, has, union}
use Rattle.sets.proofs.Algebra.{union-word, both_is}
use Rattle.relations.specs.Relation.{Relation, Plus}
use Rattle.relations.proofs.Closure.{Means}
use Rattle.dependencies.specs.History.{Holds, as-writer}
use Rattle.dependencies.specs.History as D
use Rattle.store.specs.Store.{CommitNumber, View, Store, count, version, next_number, Commit}
use Rattle.store.specs.Update.{reads, writes, newest, update}
use Rattle.store.specs.Missing.{Place, Rule, missing}
use Rattle.store.specs.Links.{wrote, has_read, holds, SO, prefix_links, snapshot_links, one_or_more}
use Rattle.store.specs.Refusal.{all_of}
use Rattle.store.proofs.Updated.{count-update}
use Rattle.store.specs.View.{IsView}
use Rattle.store.specs.Sound.{SoundStore}
use Rattle.store.specs.History.{Wrote, Read, history, held}
use Rattle.store.proofs.Links.{stored-below, holds-means, so-means, prefix-paths, snapshot-paths}
use Rattle.growth.specs.Made.{Made}
use Rattle.growth.proofs.Made.{keys-after, sound-after, read_held, wrote_after, read-after, stored-not-new}
use Rattle.growth.specs.Sessions.{UpTo}
use Rattle.growth.specs.Views.{Lacking}
use Rattle.growth.proofs.Views.{held-writer}
use Rattle.growth.specs.Clauses.{LeadsToHeld}
use Rattle.levels.specs.Clause.{Clause, monotonic_reads, read_your_writes, monotonic_writes, writes_follow_reads, update_atomic, consistent_prefix, snapshot_isolation, serialisability, clause_number, leading_to, read_before, session_writes, wants, missing_by}
use Rattle.state.specs.Keeps.{IsSet, Step, KeepsOperations}
use Rattle.state.proofs.Sets.{is_set-union}
use Rattle.views.specs.Rules.{by_writer, by_reader, of_written}
use Rattle.views.proofs.Words.{meets-is}
use Rattle.verdicts.specs.Wants.{LacksSome}
use Rattle.verdicts.specs.Verdicts.{Fails}
use Rattle.store.proofs.Misses.{Misses, missing-same, missing-agree}
use Rattle.verdicts.proofs.OnSets.{writes-ranked}
use Rattle.verdicts.proofs.FirstFailing.{same-clause}

-- ---- clause 1

-- a view holds nothing that the store before the commit has not
pub lost-is : (s : Store) (u : View) (c : Commit) → IsView s u → missing s (all_of u) c.view_after ≡ missing_by s u c monotonic_reads
unfolding missing_by wants choose update
lost-is s u c v = missing-same s (update s u c) (all_of u) (all_of u) c.view_after c.view_after refl (λ k i. (
  λ (l, t, n). (omega (arith, count-update s u c k), t, n),
  λ (l, t, n). (v.exist k i t, t, n),
))

-- ---- clauses 3 to 8, in the store before the commit

module _ (s : Store) (h : SoundStore s) (u : View) (v : IsView s u) where
  -- the writer of a version that is not held is lacking
  writer-lacking : (k i : ℕ) → i < count s k → ¬ T (has (u k) i) → Lacking s u (version s k i).writer
  writer-lacking k i l n = ((k, (i, (l, refl))), λ x. n ((held-writer s u v (version s k i).writer k i (l, refl)).1 x))

  -- rules that agree on what is not held
  rules-agree : (f g : Rule) → ((k i : ℕ) → Lacking s u (version s k i).writer → T (f k i) ↔ T (g k i)) → missing s f u ≡ missing s g u
  rules-agree f g e = missing-agree s f g u (λ k i l n. e k i (writer-lacking k i l n))

  -- "if u holds a version by t, versions by any t' with t' R t", for any links
  leading-rule : {R : ℕ → ℕ → Type 0} (r : Relation) → Means r R → (k i : ℕ) → T (leading_to s u r k i) ↔ LeadsToHeld s u R (version s k i).writer
  unfolding leading_to
  leading-rule r m k i = both
      (any-is (next_number s) _ (λ t. and_is (holds s u t) _ (holds-means s h u t) (m (version s k i).writer t)))
      (λ (t, _, (x, y)). (t, x, y), λ (t, x, y). (t, h.writers t x.0 x.1 x.3, (x, y)))

  by-writer : {R : ℕ → ℕ → Type 0} (r : Relation) → Means r R → (m : Set) → (LacksSome s u → IsSet m (LeadsToHeld s u R)) → missing s (by_writer s m) u ≡ missing s (leading_to s u r) u
  by-writer r means m is = rules-agree (by_writer s m) (leading_to s u r) (λ k i x.
      let f = is ((version s k i).writer, x) (version s k i).writer in
      let g = leading-rule r means k i in
      (λ t. g.1 (f.0 t), λ t. f.1 (g.0 t)))

  module _ (c : Commit) where
    pub before-missing : (m : Set) → (LacksSome s u → IsSet m (LeadsToHeld s u (D.SO (history s)))) → missing s (by_writer s m) u ≡ missing_by s u c monotonic_writes
    unfolding missing_by wants choose
    before-missing m is = by-writer (SO s) (so-means s h) m is

    pub prefix-missing : (m : Set) → (LacksSome s u → IsSet m (LeadsToHeld s u (Plus (Step 0 s)))) → missing s (by_writer s m) u ≡ missing_by s u c consistent_prefix
    unfolding missing_by wants choose
    prefix-missing m is = by-writer (one_or_more s (prefix_links s)) (prefix-paths s h) m is

    pub snapshot-missing : (m : Set) → (LacksSome s u → IsSet m (LeadsToHeld s u (Plus (Step 1 s)))) → missing s (by_writer s m) u ≡ missing_by s u c snapshot_isolation
    unfolding missing_by wants choose
    snapshot-missing m is = by-writer (one_or_more s (snapshot_links s)) (snapshot-paths s h) m is

    -- "each version read by t or by a t' with t' SO t": its readers meet what the view holds, and what is before that in SO
    pub read-missing : (before seen : Set) → before < 2 ^ 64 → seen < 2 ^ 64 → (LacksSome s u → IsSet before (LeadsToHeld s u (D.SO (history s))))
        → IsSet seen (Holds (history s) (held u)) → missing s (by_reader s (union before seen)) u ≡ missing_by s u c writes_follow_reads
    unfolding missing_by wants choose read_before
    read-missing before seen lb ls is seen-is =
        rules-agree (by_reader s (union before seen)) (read_before s u) (λ k i x. both (met k i x) (out k i, into k i))
      where
        Reader : ℕ → ℕ → Type 0
        Reader k i = (t : CommitNumber) × (LeadsToHeld s u (D.SO (history s)) t ⊎ Holds (history s) (held u) t) × T (has_read s t k i)

        met : (k i : ℕ) → Lacking s u (version s k i).writer → T (by_reader s (union before seen) k i) ↔ Reader k i
        met k i x =
            let m = is_set-union before seen (is ((version s k i).writer, x)) seen-is in
            both (meets-is (union before seen) (version s k i).readers (union-word before seen lb ls)) (λ (t, y, z). (t, (m t).0 y, z), λ (t, y, z). (t, (m t).1 y, z))

        rule : (k i : ℕ) → T (read_before s u k i)
            ↔ ((b : CommitNumber) × (b < next_number s) × (Holds (history s) (held u) b × (T (has_read s b k i) ⊎ ((a : CommitNumber) × (a < next_number s) × (D.SO (history s) a b × T (has_read s a k i))))))
        rule k i =
            any-is (next_number s) _ (λ b. and_is (holds s u b) _ (holds-means s h u b)
            (or_is (has_read s b k i) _ same (any-is (next_number s) _ (λ a. and_is (SO s a b) (has_read s a k i) (so-means s h a b) same))))

        below : (b : CommitNumber) → Holds (history s) (held u) b → b < next_number s
        below b x = h.writers b x.0 x.1 x.3

        earlier : (a b : CommitNumber) → D.SO (history s) a b → a < next_number s
        earlier a b (D.session-order x _ _ _ _ _) = stored-below s h a x

        out : (k i : ℕ) → Reader k i → T (read_before s u k i)
        out k i (t, inr x, y) = (rule k i).1 (t, below t x, (x, inl y))
        out k i (t, inl (b, x, o), y) = (rule k i).1 (b, below b x, (x, inr (t, earlier t b o, (o, y))))

        into : (k i : ℕ) → T (read_before s u k i) → Reader k i
        into k i t = go ((rule k i).0 t)
          where
            go : ((b : CommitNumber) × (b < next_number s) × (Holds (history s) (held u) b × (T (has_read s b k i) ⊎ ((a : CommitNumber) × (a < next_number s) × (D.SO (history s) a b × T (has_read s a k i)))))) → Reader k i
            go (b, _, (x, inl y)) = (b, inr x, y)
            go (b, _, (x, inr (a, _, (o, y)))) = (a, inl (b, x, o), y)

    -- "every version of each key written"
    pub written-missing : (ranks : Set) (values : List ℕ) → KeepsOperations c ranks values → missing s (of_written ranks) u ≡ missing_by s u c update_atomic
    unfolding missing_by wants choose
    written-missing ranks values ops = rules-agree (of_written ranks) (λ k i. writes c k) (λ k i x. let e = writes-ranked ops k in (e.1, e.0))

    -- "every version of every key"
    pub lacking-missing : (m : Set) → IsSet m (Lacking s u) → missing s (by_writer s m) u ≡ missing_by s u c serialisability
    unfolding missing_by wants choose
    lacking-missing m is = rules-agree (by_writer s m) (λ k i. true) (λ k i x. (λ t. tt, λ t. (is (version s k i).writer).1 x))

-- ---- the searches are made in the store after the commit

module _ (s : Store) (u : View) (c : Commit) (made : Made s u c) where
  -- clause 2: the versions by the commit and by those before it in SO
  pub session-missing : (m : Set) → IsSet m (UpTo (history (update s u c)) (next_number s)) → missing (update s u c) (by_writer (update s u c) m) c.view_after ≡ missing_by s u c read_your_writes
  unfolding missing_by wants choose session_writes
  session-missing m is = missing-agree (update s u c) (by_writer (update s u c) m) (session_writes (update s u c) (next_number s)) c.view_after (λ k i l n.
      let a = (version (update s u c) k i).writer in
      let rule = or_is (wrote (update s u c) (next_number s) k i) (SO (update s u c) a (next_number s)) (eq_is a (next_number s)) (so-means (update s u c) (sound-after s u c made) a (next_number s)) in
      (λ t. rule.1 ((is a).0 t), λ t. (is a).1 (rule.0 t)))

  -- a search for what lacking commits wrote finds the same in both stores, as the commit itself is none of these
  pub by-lacking : (m m' : Set) → IsSet m' (λ a. T (has m a) × Lacking s u a) → missing (update s u c) (by_writer (update s u c) m') u ≡ missing s (by_writer s m) u
  by-lacking m m' is = missing-same (update s u c) s (by_writer (update s u c) m') (by_writer s m) u u (keys-after s u c made) (λ k i. (out k i, back k i))
    where
      out : (k i : ℕ) → Misses (update s u c) (by_writer (update s u c) m') u k i → Misses s (by_writer s m) u k i
      out k i (l, t, n) = go ((wrote_after s u c made a k i).0 (l, refl))
        where
          a : CommitNumber
          a = (version (update s u c) k i).writer

          go : Wrote s a k i ⊎ ((a ≡ next_number s) × T (writes c k) × (i ≡ count s k)) → Misses s (by_writer s m) u k i
          go (inl w) = (w.0, subst (λ (b : ℕ). T (has m b)) (sym w.1) ((is a).0 t).0, n)
          go (inr (e, _, _)) = let x = ((is a).0 t).1.0 in absurd (stored-not-new s u c made (as-writer x.1.1) e)

      back : (k i : ℕ) → Misses s (by_writer s m) u k i → Misses (update s u c) (by_writer (update s u c) m') u k i
      back k i (l, t, n) =
          let a = (version s k i).writer in
          let w = (wrote_after s u c made a k i).1 (inl (l, refl)) in
          (w.0, subst (λ (b : ℕ). T (has m' b)) (sym w.1) ((is a).1 (t, writer-lacking s made.sound u made.view k i l n)), n)

  -- and so does one for what was read, as the commit reads only what the view holds
  pub by-readers : (m : Set) → m < 2 ^ 64 → missing (update s u c) (by_reader (update s u c) m) u ≡ missing s (by_reader s m) u
  by-readers m word = missing-same (update s u c) s (by_reader (update s u c) m) (by_reader s m) u u (keys-after s u c made) (λ k i. (out k i, back k i))
    where
      out : (k i : ℕ) → Misses (update s u c) (by_reader (update s u c) m) u k i → Misses s (by_reader s m) u k i
      out k i (l, t, n) = let x = (meets-is m (version (update s u c) k i).readers word).0 t in go x.0 x.1 ((read-after s u c made x.0 k i).0 (l, x.2))
        where
          go : (a : CommitNumber) → T (has m a) → Read s a k i ⊎ ((a ≡ next_number s) × T (reads c k) × (i ≡ newest u k)) → Misses s (by_reader s m) u k i
          go a x (inl r) = (r.0, (meets-is m (version s k i).readers word).1 (a, x, r.1), n)
          go a x (inr (_, r, e)) = absurd (n (rw e (read_held s u c made k r)))

      back : (k i : ℕ) → Misses s (by_reader s m) u k i → Misses (update s u c) (by_reader (update s u c) m) u k i
      back k i (l, t, n) =
          let x = (meets-is m (version s k i).readers word).0 t in
          let r = (read-after s u c made x.0 k i).1 (inl (l, x.2)) in
          (r.0, (meets-is m (version (update s u c) k i).readers word).1 (x.0, x.1, r.1), n)

  -- a set of commits, and the lacking ones among them
  pub among-lacking : (m lacking : Set) → IsSet lacking (Lacking s u) → IsSet (bit_and m lacking) (λ a. T (has m a) × Lacking s u a)
  among-lacking m lacking is a = both (both_is m lacking a) (λ (x, y). (x, (is a).0 y), λ (x, y). (x, (is a).1 y))

  pub all-lacking : (lacking : Set) → IsSet lacking (Lacking s u) → IsSet lacking (λ a. T (has lacking a) × Lacking s u a)
  all-lacking lacking is a = (λ t. (t, (is a).0 t), λ (t, _). t)

-- ---- numbers of clauses

-- the clause of a number is the one that has it
pub at-clause : (s : Store) (u : View) (c : Commit) (y x : Clause) {clause : ℕ} {p : Option Place} → clause_number x ≡ clause → clause ≡ clause_number y
    → p ≡ missing_by s u c y → p ≡ missing_by s u c x
at-clause s u c y x e f h = h ∙ ap (missing_by s u c) (sym (same-clause x y (e ∙ f)))

pub as-clause : (s : Store) (u : View) (c : Commit) (live : Set) (x y : Clause) → clause_number x ≡ clause_number y → Fails s u c live x → Fails s u c live y
as-clause s u c live x y e = subst (Fails s u c live) (same-clause x y e)

-- the last one is what none of the others is
pub last-clause : (x : Clause) {n : ℕ} → clause_number x ≡ n → n ≢ 1 → n ≢ 2 → n ≢ 3 → n ≢ 4 → n ≢ 5 → n ≢ 6 → n ≢ 7 → n ≡ clause_number serialisability
last-clause monotonic_reads q a b c d e f g = absurd (a (sym q))
last-clause read_your_writes q a b c d e f g = absurd (b (sym q))
last-clause monotonic_writes q a b c d e f g = absurd (c (sym q))
last-clause writes_follow_reads q a b c d e f g = absurd (d (sym q))
last-clause update_atomic q a b c d e f g = absurd (e (sym q))
last-clause consistent_prefix q a b c d e f g = absurd (f (sym q))
last-clause snapshot_isolation q a b c d e f g = absurd (g (sym q))
last-clause serialisability q a b c d e f g = sym q
