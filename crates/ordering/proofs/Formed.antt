-- The test of specs/Shape.antt says what it should. Assumes nothing.
use Prim.Native.Nat.{ℕ, zero, suc, ◌≤◌, ◌<◌}
use mathlib.Core.Path.{◌≡◌, refl, sym}
use mathlib.Core.Bool.{Bool, ◌&&◌, not}
use mathlib.Core.Logic.{◌⊎◌, inl, inr, ◌↔◌}
use native.Mathlib.Omega.{arith}
use native.Mathlib.Decide.{dec_lt}
use lib.Dec.{T, eqb, ltb, leb, T_not, not_T}
use lib.Bits.{bit_and}
use Rattle.search.specs.Search.{any}
use Rattle.search.proofs.Tests.{both, and_is, or_is, not_is, eq_is, lt-is, le_is, stable}
use Rattle.search.proofs.Search.{any-in, any_out}
use Rattle.sets.specs.Set.{has, single, below}
use Rattle.sets.proofs.Laws.{single-has, single-only, has-below, below-has}
use Rattle.sets.proofs.Algebra.{both_is, without_is, empty-is, subset-is}
use Rattle.store.specs.Limits.{max_commits}
use Rattle.store.specs.Store.{Key, CommitNumber, Store, count, version}
use Rattle.store.specs.History.{Read}
use Rattle.ordering.specs.Links.{is_commit, IsCommit}
use Rattle.ordering.specs.Shape.{every, commit_set, opens_right, writer_known, readers_known, writer_new, readers_new, version_fits, entry_new, well_formed}
use Rattle.ordering.proofs.Placing.{is_commit-is}
use Rattle.ordering.proofs.Shape.{WellFormed}

pub every-is : {P : ℕ → Type 0} (n : ℕ) (f : ℕ → Bool) → ((i : ℕ) → T (f i) ↔ P i) → T (every n f) ↔ ((i : ℕ) → i < n → P i)
unfolding every
every-is n f e = (
  λ t i l. (e i).0 (stable (f i) (λ u. T_not (any n (λ j. not (f j))) t (any-in n (λ j. not (f j)) i l (not_T (f i) u)))),
  λ h. not_T (any n (λ j. not (f j))) (λ t. let x = any_out n (λ j. not (f j)) t in T_not (f x.0) x.2 ((e x.0).1 (h x.0 x.1))),
)

pub commit-set-is : (n c : ℕ) → T (has (commit_set n) c) ↔ IsCommit n c
commit-set-is n c = both (without_is (below (suc n)) (single 0) c) (out, into)
  where
    out : T (has (below (suc n)) c) × (¬ T (has (single 0) c)) → IsCommit n c
    out (x, y) = go c y (below-has (suc n) c x)
      where
        go : (c : ℕ) → ¬ T (has (single 0) c) → c < suc n → IsCommit n c
        go zero y l = absurd (y (single-has 0))
        go (suc c) y l = (omega arith, omega arith)

    into : IsCommit n c → T (has (below (suc n)) c) × (¬ T (has (single 0) c))
    into (p, l) = (has-below (suc n) c (omega arith), λ t. let e = single-only 0 c t in omega (arith, e))

module _ (s : Store) where
  Opens : Key → Type 0
  Opens k = (0 < count s k) × (((version s k 0).value ≡ 0) × ((version s k 0).writer ≡ 0))

  VersionFits : Key → ℕ → Type 0
  VersionFits k j =
      (((j ≡ 0) ⊎ IsCommit s.commits (version s k j).writer) × ((c : ℕ) → T (has (version s k j).readers c) → IsCommit s.commits c))
      × (((i : ℕ) → i < j → ¬ ((version s k i).writer ≡ (version s k j).writer))
      × ((i : ℕ) → i < j → (c : ℕ) → ¬ (T (has (version s k i).readers c) × T (has (version s k j).readers c))))

  NewEntry : CommitNumber → Type 0
  NewEntry b = (a : CommitNumber) → a < b → ¬ (IsCommit s.commits a × ((s.client_of a ≡ s.client_of b) × (s.session_of a ≡ s.session_of b)))

  opens-is : (k : Key) → T (opens_right s k) ↔ Opens k
  unfolding Opens
  opens-is k = and_is (ltb 0 (count s k)) _ (lt-is 0 (count s k)) (and_is (eqb (version s k 0).value 0) (eqb (version s k 0).writer 0) (eq_is _ 0) (eq_is _ 0))

  version-fits-is : (k j : ℕ) → T (version_fits s k j) ↔ VersionFits k j
  unfolding VersionFits
  version-fits-is k j =
      and_is (writer_known s k j && readers_known s k j) (writer_new s k j && readers_new s k j)
      (and_is (writer_known s k j) (readers_known s k j)
      (or_is (eqb j 0) (is_commit s.commits (version s k j).writer) (eq_is j 0) (is_commit-is s.commits (version s k j).writer))
      (both (eq_is _ 0) (both (subset-is (version s k j).readers (commit_set s.commits))
      (λ f c t. (commit-set-is s.commits c).0 (f c t), λ f c t. (commit-set-is s.commits c).1 (f c t)))))
      (and_is (writer_new s k j) (readers_new s k j)
      (every-is j _ (λ i. not_is (eqb (version s k i).writer (version s k j).writer) (eq_is _ _)))
      (every-is j _ (λ i. both (eq_is _ 0) (both (empty-is (bit_and (version s k i).readers (version s k j).readers))
      (λ f c x. f c ((both_is _ _ c).1 x), λ f c x. f c ((both_is _ _ c).0 x))))))

  new-entry-is : (b : CommitNumber) → T (entry_new s b) ↔ NewEntry b
  unfolding NewEntry
  new-entry-is b =
      every-is b _ (λ a. not_is (is_commit s.commits a && (eqb (s.client_of a) (s.client_of b) && eqb (s.session_of a) (s.session_of b)))
      (and_is (is_commit s.commits a) (eqb (s.client_of a) (s.client_of b) && eqb (s.session_of a) (s.session_of b)) (is_commit-is s.commits a)
      (and_is (eqb (s.client_of a) (s.client_of b)) (eqb (s.session_of a) (s.session_of b)) (eq_is _ _) (eq_is _ _))))

  abbrev Parts : Type 0
  Parts = ((s.commits ≤ 63) × ((b : ℕ) → b < suc s.commits → NewEntry b)) × ((k : ℕ) → k < s.keys → Opens k × ((i : ℕ) → i < count s k → VersionFits k i))

  parts_is : T (well_formed s) ↔ Parts
  unfolding well_formed
  parts_is =
      and_is (leb s.commits max_commits && every (suc s.commits) (entry_new s)) _
      (and_is (leb s.commits max_commits) _ (le_is s.commits max_commits) (every-is (suc s.commits) (entry_new s) new-entry-is))
      (every-is s.keys _ (λ k. and_is (opens_right s k) _ (opens-is k) (every-is (count s k) (version_fits s k) (version-fits-is k))))

  -- of two places of which the same is true, where no earlier one has it with a later one
  same_place : (P : ℕ → ℕ → Type 0) → ((i j : ℕ) → P i j → P j i) → ((i j : ℕ) → i < j → ¬ P i j) → (i j : ℕ) → P i j → i ≡ j
  same_place P turn never i j p = go (dec_lt i j) (dec_lt j i)
    where
      go : Dec (i < j) → Dec (j < i) → i ≡ j
      go (yes l) d = absurd (never i j l p)
      go (no l) (yes m) = absurd (never j i m (turn i j p))
      go (no l) (no m) = omega arith

  -- the test passes exactly where the image is well-formed; that there are versions of its keys alone is how an image is read
  pub well-formed-is : ((k i : ℕ) → i < count s k → k < s.keys) → T (well_formed s) ↔ WellFormed s
  unfolding Opens VersionFits NewEntry
  well-formed-is only = (λ t. out (parts_is.0 t), λ h. parts_is.1 (into h))
    where
      out : Parts → WellFormed s
      out ((few, entry), key) = record {
        few-commits = few;
        only-keys = only;
        some-version = λ k l. (key k l).0.0;
        first-value = λ k l. (key k (only k 0 l)).0.1.0;
        first-writer = λ k l. (key k (only k 0 l)).0.1.1;
        writers = λ k i p l. later i p ((key k (only k i l)).1 i l).0.0;
        readers = λ k i c l t. ((key k (only k i l)).1 i l).0.1 c t;
        writes-once = λ k i j li lj e.
            same_place (λ x y. (x < count s k) × (y < count s k) × ((version s k x).writer ≡ (version s k y).writer)) (λ x y (a, b, q). (b, a, sym q))
            (λ x y l (a, b, q). ((key k (only k y b)).1 y b).1.0 x l q) i j (li, lj, e);
        reads-once = λ c k i j r r'.
            same_place (λ x y. Read s c k x × Read s c k y) (λ x y (a, b). (b, a)) (λ x y l (a, b). ((key k (only k y b.0)).1 y b.0).1.1 x l c (a.1, b.1)) i j (r, r');
        entries = λ a b ca cb e q.
            same_place (λ x y. (IsCommit s.commits x × IsCommit s.commits y) × ((s.client_of x ≡ s.client_of y) × (s.session_of x ≡ s.session_of y)))
            (λ x y ((u, v), (p, r)). ((v, u), (sym p, sym r))) (λ x y l ((u, v), z). entry y (let m = v.1 in omega (arith, m)) x l (u, z)) a b ((ca, cb), (e, q));
      }
        where
          later : {c : CommitNumber} (i : ℕ) → 0 < i → (i ≡ 0) ⊎ IsCommit s.commits c → IsCommit s.commits c
          later i p (inl e) = absurd (omega arith)
          later i p (inr c) = c

      into : WellFormed s → Parts
      into h = (
        (
          h.few-commits,
          λ b m a l (ca, (e, q)). let z = h.entries a b ca ((let p = ca.0 in omega (arith, p)), omega arith) e q in omega (arith, z),
        ),
        λ k l. (
          (h.some-version k l, (h.first-value k (h.some-version k l), h.first-writer k (h.some-version k l))),
          λ j m. (
            (writer k j m, λ c t. h.readers k j c m t),
            (λ i i<j e. (let z = h.writes-once k i j (omega arith) m e in omega (arith, z)), λ i i<j c (x, y). (let z = h.reads-once c k i j (omega arith, x) (m, y) in omega (arith, z))),
          ),
        ),
      )
        where
          writer : (k j : ℕ) → j < count s k → (j ≡ 0) ⊎ IsCommit s.commits (version s k j).writer
          writer k zero m = inl refl
          writer k (suc j) m = inr (h.writers k (suc j) (omega arith) m)
