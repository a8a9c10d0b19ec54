-- A bare image that is not misshapen, as facts; it is a sound store, and its links mean what 01 says. Assumes nothing.
use Prim.Native.Nat.{ℕ, zero, suc, ◌≤◌, ◌<◌}
use mathlib.Core.Path.{◌≡◌, subst}
use mathlib.Core.Bool.{◌&&◌, ◌||◌}
use mathlib.Core.Logic.{◌⊎◌, inl, inr, ◌↔◌}
use native.Mathlib.Omega.{arith}
use lib.Dec.{T, eqb, ltb}
use Rattle.search.proofs.Tests.{and_is, or_left, or_right, or_cases, eq_is, lt-is}
use Rattle.sets.specs.Set.{has}
use Rattle.dependencies.specs.History as D
use Rattle.store.specs.Store.{Key, CommitNumber, Store, count, version, next_number}
use Rattle.store.specs.Links.{LinkKind, so, wr, ww, rw as rw-kind}
use Rattle.store.specs.History.{Wrote, Read, history}
use Rattle.store.specs.Sound.{SoundStore}
use Rattle.store.proofs.Links.{wr-means, ww-means, rw-means}
use Rattle.ordering.specs.Links.{is_commit, session_order, pairs, linked_by, links, Between, IsCommit}
use Rattle.ordering.proofs.Lists.{pigeonhole}
use Rattle.ordering.proofs.Placing.{is_commit-is}

-- what code 20 leaves
pub record WellFormed (s : Store) : Type 0 where
  -- "commits 0 to 63" (01, Sizes of a rack), and versions of the image's keys alone
  pub few-commits : s.commits ≤ 63
  pub only-keys : (k i : ℕ) → i < count s k → k < s.keys
  -- not "version 0 not (0, opening)"
  pub some-version : (k : Key) → k < s.keys → 0 < count s k
  pub first-value : (k : Key) → 0 < count s k → (version s k 0).value ≡ 0
  pub first-writer : (k : Key) → 0 < count s k → (version s k 0).writer ≡ 0
  -- not "writer or reader number not among the commits"
  pub writers : (k i : ℕ) → 0 < i → i < count s k → IsCommit s.commits (version s k i).writer
  pub readers : (k i c : ℕ) → i < count s k → T (has (version s k i).readers c) → IsCommit s.commits c
  -- not "one commit twice as writer or twice as reader of a key"
  pub writes-once : (k i j : ℕ) → i < count s k → j < count s k → (version s k i).writer ≡ (version s k j).writer → i ≡ j
  pub reads-once : (c k i j : ℕ) → Read s c k i → Read s c k j → i ≡ j
  -- not "two entries of equal client and number"
  pub entries : (a b : CommitNumber) → IsCommit s.commits a → IsCommit s.commits b
      → s.client_of a ≡ s.client_of b → s.session_of a ≡ s.session_of b → a ≡ b

module _ (s : Store) (h : WellFormed s) where
  -- who wrote a version, with the opening transaction
  writer-low : (k i : ℕ) → i < count s k → (version s k i).writer < next_number s
  writer-low k zero l = let e = h.first-writer k l in omega (arith, e)
  writer-low k (suc i) l = let w = (h.writers k (suc i) (omega arith) l).1 in omega (arith, w)

  pub bare-sound : SoundStore s
  bare-sound = record {
    writers = λ t k i w. subst (λ (x : ℕ). x < next_number s) w.1 (writer-low k i w.0);
    readers = λ t k i r. let c = (h.readers k i t r.0 r.1).1 in omega (arith, c);
    some-version = h.some-version;
    few = λ k. pigeonhole (count s k) (next_number s) (λ i. (version s k i).writer) (writer-low k) (h.writes-once k);
    only-keys = h.only-keys;
  }

  -- a commit writes no version 0
  pub written-later : (t k i : ℕ) → IsCommit s.commits t → Wrote s t k i → 0 < i
  written-later t k zero c w = let e : (version s k 0).writer ≡ 0 = h.first-writer k w.0 in let q : (version s k 0).writer ≡ t = w.1 in let p : 0 < t = c.0 in omega arith
  written-later t k (suc i) c w = omega arith

  -- ---- links

  abbrev pub SessionOrder : CommitNumber → CommitNumber → Type 0
  SessionOrder a b = (s.client_of a ≡ s.client_of b) × (s.session_of a < s.session_of b)

  -- what a link of each kind means
  abbrev pub LinkOf : LinkKind → CommitNumber → CommitNumber → Type 0
  LinkOf so = SessionOrder
  LinkOf wr = D.WR (history s)
  LinkOf ww = D.WW (history s)
  LinkOf rw-kind = D.RW (history s)

  pub link-of-is : (kind : LinkKind) (a b : CommitNumber) → T (pairs s kind a b) ↔ LinkOf kind a b
  unfolding session_order
  link-of-is so a b = and_is (eqb (s.client_of a) (s.client_of b)) (ltb (s.session_of a) (s.session_of b)) (eq_is _ _) (lt-is _ _)
  link-of-is wr a b = wr-means s bare-sound a b
  link-of-is ww a b = ww-means s bare-sound a b
  link-of-is rw-kind a b = rw-means s bare-sound a b

  abbrev pub LinkedBy : LinkKind → CommitNumber → CommitNumber → Type 0
  LinkedBy kind a b = (IsCommit s.commits a × IsCommit s.commits b) × LinkOf kind a b

  pub linked-by-is : (kind : LinkKind) (a b : CommitNumber) → T (linked_by s kind a b) ↔ LinkedBy kind a b
  unfolding linked_by
  linked-by-is kind a b =
      and_is (is_commit s.commits a && is_commit s.commits b) (pairs s kind a b)
      (and_is (is_commit s.commits a) (is_commit s.commits b) (is_commit-is s.commits a) (is_commit-is s.commits b)) (link-of-is kind a b)

-- a link of any kind is one of some kind
pub some-kind : (s : Store) (a b : CommitNumber) → T (links s a b) → (kind : LinkKind) × T (linked_by s kind a b)
unfolding links
some-kind s a b t = first (or_cases (linked_by s so a b) _ t)
  where
    third : T (linked_by s ww a b) ⊎ T (linked_by s rw-kind a b) → (kind : LinkKind) × T (linked_by s kind a b)
    third (inl x) = (ww, x)
    third (inr x) = (rw-kind, x)

    second : T (linked_by s wr a b) ⊎ T (linked_by s ww a b || linked_by s rw-kind a b) → (kind : LinkKind) × T (linked_by s kind a b)
    second (inl x) = (wr, x)
    second (inr x) = third (or_cases (linked_by s ww a b) (linked_by s rw-kind a b) x)

    first : T (linked_by s so a b) ⊎ T (linked_by s wr a b || (linked_by s ww a b || linked_by s rw-kind a b)) → (kind : LinkKind) × T (linked_by s kind a b)
    first (inl x) = (so, x)
    first (inr x) = second (or_cases (linked_by s wr a b) _ x)

pub of-kind : (s : Store) (kind : LinkKind) (a b : CommitNumber) → T (linked_by s kind a b) → T (links s a b)
unfolding links
of-kind s so a b t = or_left (linked_by s so a b) _ t
of-kind s wr a b t = or_right (linked_by s so a b) _ (or_left (linked_by s wr a b) _ t)
of-kind s ww a b t = or_right (linked_by s so a b) _ (or_right (linked_by s wr a b) _ (or_left (linked_by s ww a b) _ t))
of-kind s rw-kind a b t = or_right (linked_by s so a b) _ (or_right (linked_by s wr a b) _ (or_right (linked_by s ww a b) _ t))

module _ (s : Store) (h : WellFormed s) where
  pub links-between : Between s.commits (links s)
  links-between a b t = let x = some-kind s a b t in ((linked-by-is s h x.0 a b).0 x.1).0

  -- a link of a kind between commits
  pub link : (kind : LinkKind) {a b : CommitNumber} → IsCommit s.commits a → IsCommit s.commits b → LinkOf s h kind a b → T (links s a b)
  link kind {a} {b} ca cb l = of-kind s kind a b ((linked-by-is s h kind a b).1 ((ca, cb), l))
