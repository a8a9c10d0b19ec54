-- Code 20 by the parts of the image: the definition of specs/Shape.antt holds exactly where each part fits (specs/Parts.antt). Assumes nothing.
use Prim.Native.Nat.{ℕ, zero, suc, ◌+◌, ◌-◌, ◌*◌, ◌^◌, ◌≤◌, ◌<◌}
use mathlib.Core.Path.{◌≡◌, sym, ap, ◌∙◌, subst}
use mathlib.Core.Bool.{◌&&◌}
use mathlib.Core.Logic.{◌↔◌}
use mathlib.Core.List.{List}
use native.Mathlib.Omega.{arith}
use native.Mathlib.Decide.{dec_lt}
use lib.Bits.{bit_and}
use lib.Dec.{T, eqb, ltb, leb}
use lib.ListN.{length}
use Rattle.search.proofs.Tests.{both, and_is, eq_is, lt-is, le_is}
use Rattle.sets.specs.Set.{has}
use Rattle.sets.proofs.Algebra.{both_is, empty-is, subset-is}
use Rattle.endian.specs.Endian.{Bytes, le_at}
use Rattle.endian.proofs.Laws.{le_at-lt}
use Rattle.store.specs.Limits.{max_keys, max_clients, max_commits}
use Rattle.store.specs.Store.{Key, Store, count, version}
use Rattle.ordering.specs.Links.{IsCommit}
use Rattle.ordering.specs.Shape.{every, commit_set, well_formed}
use Rattle.ordering.proofs.Shape.{WellFormed}
use Rattle.ordering.proofs.Formed.{every-is, commit-set-is, well-formed-is}
use Rattle.store.specs.Reading.{image_keys, image_commits, commit_size, commit_place, key_place, store_of}
use Rattle.reading.specs.Parts.{writer_at, readers_at, NewEntry, EntryFits, VersionsFit, KeyFits, BodyFits}
use Rattle.reading.specs.Shape.{sizes_right, clients_known, spares_zero, well_shaped}
use Rattle.reading.proofs.Says.{says-keys, says-commits, says-key, says-within, within-said, says-writer, says-readers, says-value, says-only, says-client, says-session, says-commit, commit-said}
use Rattle.reading.proofs.Keys.{place-next, place_mono}

-- the first 8 bytes
pub record HeadFits (b : List ℕ) : Type 0 where
  pub long : 8 ≤ length b
  pub whole : le_at b 0 4 ≡ length b
  pub some_key : 0 < image_keys b
  pub few-keys : image_keys b ≤ max_keys
  pub few-commits : image_commits b ≤ max_commits
  pub spare : le_at b 6 2 ≡ 0

-- what is left of an image: each part fits
pub record Shaped (b : List ℕ) : Type 0 where
  pub head : HeadFits b
  pub body : BodyFits b

module _ (b : List ℕ) where
  -- ---- the tests as facts

  abbrev Sizes : Type 0
  Sizes = ((8 ≤ length b) × (le_at b 0 4 ≡ length b)) × (((0 < image_keys b) × (image_keys b ≤ max_keys)) × ((image_commits b ≤ max_commits) × (key_place b (image_keys b) ≡ length b)))

  sizes-is : T (sizes_right b) ↔ Sizes
  unfolding sizes_right
  sizes-is =
      and_is (leb 8 (length b) && eqb (le_at b 0 4) (length b)) _
      (and_is (leb 8 (length b)) (eqb (le_at b 0 4) (length b)) (le_is 8 (length b)) (eq_is (le_at b 0 4) (length b)))
      (and_is (ltb 0 (image_keys b) && leb (image_keys b) max_keys) _
      (and_is (ltb 0 (image_keys b)) (leb (image_keys b) max_keys) (lt-is 0 (image_keys b)) (le_is (image_keys b) max_keys))
      (and_is (leb (image_commits b) max_commits) (eqb (key_place b (image_keys b)) (length b)) (le_is (image_commits b) max_commits) (eq_is (key_place b (image_keys b)) (length b))))

  abbrev Clients : Type 0
  Clients = (i : ℕ) → i < image_commits b → le_at b (commit_place b (suc i)) 1 < max_clients

  clients-is : T (clients_known b) ↔ Clients
  unfolding clients_known
  clients-is = every-is (image_commits b) _ (λ i. lt-is (le_at b (commit_place b (suc i)) 1) max_clients)

  abbrev Spares : Type 0
  Spares = ((le_at b 6 2 ≡ 0) × ((i : ℕ) → i < image_commits b → le_at b (commit_place b (suc i) + 1) 3 ≡ 0))
      × ((k : ℕ) → k < image_keys b → (i : ℕ) → i < le_at b (key_place b k) 4 → le_at b (key_place b k + 4 + 16 * i + 5) 3 ≡ 0)

  spares-is : T (spares_zero b) ↔ Spares
  unfolding spares_zero
  spares-is =
      and_is (eqb (le_at b 6 2) 0 && every (image_commits b) (λ i. eqb (le_at b (commit_place b (suc i) + 1) 3) 0)) _
      (and_is (eqb (le_at b 6 2) 0) _ (eq_is (le_at b 6 2) 0) (every-is (image_commits b) _ (λ i. eq_is (le_at b (commit_place b (suc i) + 1) 3) 0)))
      (every-is (image_keys b) _ (λ k. every-is (le_at b (key_place b k) 4) _ (λ i. eq_is (le_at b (key_place b k + 4 + 16 * i + 5) 3) 0)))

  formed-is : T (well_formed (store_of b)) ↔ WellFormed (store_of b)
  formed-is = well-formed-is (store_of b) (λ k i l. subst (λ (n : ℕ). k < n) (sym (says-keys b)) (says-only b k i l))

  tests-are : T (well_shaped b) ↔ ((Sizes × Clients) × (Spares × WellFormed (store_of b)))
  unfolding well_shaped
  tests-are =
      and_is (sizes_right b && clients_known b) _ (and_is (sizes_right b) (clients_known b) sizes-is clients-is)
      (and_is (spares_zero b) (well_formed (store_of b)) spares-is formed-is)

  -- ---- what the store says, by the places

  abbrev s : Store
  s = store_of b

  abbrev base : (k : Key) → ℕ
  base k = key_place b k + 4

  abbrev n : (k : Key) → ℕ
  n k = le_at b (key_place b k) 4

  -- ---- each part fits

  module _ (sizes : Sizes) (clients : Clients) (spares : Spares) (w : WellFormed s) where
    new-entry : (t : ℕ) → 0 < t → t ≤ image_commits b → NewEntry b (commit_size (image_keys b)) t
    new-entry t p l a q m (e, f) =
        let ca : IsCommit (image_commits b) a = (q, omega arith) in
        let ct : IsCommit (image_commits b) t = (p, l) in
        let z = w.entries a t (says-commit b a ca) (says-commit b t ct) (says-client b a ca ∙ e ∙ sym (says-client b t ct)) (says-session b a ca ∙ f ∙ sym (says-session b t ct)) in
        absurd (omega (arith, z))

    entry : (t : ℕ) → 0 < t → t ≤ image_commits b → EntryFits b (commit_size (image_keys b)) t
    entry zero p l = absurd (omega arith)
    entry (suc i) p l = record { client = clients i l; spare = spares.0.1 i l; new = new-entry (suc i) p l }

    module _ (k : Key) (l : k < image_keys b) where
      known-writer : (i : ℕ) → i < n k → writer_at b (base k) i ≤ image_commits b
      known-writer zero m =
          let e : (version s k 0).writer ≡ 0 = w.first-writer k (says-within b k l 0 m) in
          omega (arith, says-writer b k l 0 m, e)
      known-writer (suc i) m = let c = commit-said b _ (w.writers k (suc i) (omega arith) (says-within b k l (suc i) m)) in omega (arith, says-writer b k l (suc i) m, c.1)

      versions-fit : VersionsFit b (base k) (n k) (image_commits b)
      versions-fit = record {
        spare = spares.1 k l;
        writer = known-writer;
        readers = λ i m. (subset-is (readers_at b (base k) i) (commit_set (image_commits b))).1
            (λ c t. (commit-set-is (image_commits b) c).1 (commit-said b c (w.readers k i c (says-within b k l i m) (subst (λ (x : ℕ). T (has x c)) (sym (says-readers b k l i m)) t))));
        writes-once = λ i j p m e.
            let li : i < n k = omega arith in
            let z = w.writes-once k i j (says-within b k l i li) (says-within b k l j m) (says-writer b k l i li ∙ e ∙ sym (says-writer b k l j m)) in absurd (omega (arith, z));
        reads-once = λ i j p m.
            let li : i < n k = omega arith in
            (empty-is (bit_and (readers_at b (base k) i) (readers_at b (base k) j))).1
            (λ c h. let x = (both_is (readers_at b (base k) i) (readers_at b (base k) j) c).0 h in
            let z = w.reads-once c k i j
            (says-within b k l i li, subst (λ (y : ℕ). T (has y c)) (sym (says-readers b k l i li)) x.0)
            (says-within b k l j m, subst (λ (y : ℕ). T (has y c)) (sym (says-readers b k l j m)) x.1) in
            omega (arith, z));
      }

      key : KeyFits b (key_place b k) (image_commits b)
      key =
          let some : 0 < n k = within-said b k l 0 (w.some-version k (says-key b k l)) in
          let behind : image_keys b - suc k + suc k ≡ image_keys b = omega arith in
          let first : key_place b k + 4 + 16 * 0 ≡ key_place b k + 4 = omega arith in
          let second : key_place b k + 4 + 16 * 0 + 4 ≡ key_place b k + 8 = omega arith in record {
            some-version = some;
            within = omega (arith, place-next b k, place_mono b (suc k) (image_keys b - suc k), ap (key_place b) behind, sizes.1.1.1);
            first-value = ap (λ (p : ℕ). le_at b p 4) (sym first) ∙ sym (says-value b k l 0 some) ∙ w.first-value k (says-within b k l 0 some);
            first-writer = ap (λ (p : ℕ). le_at b p 1) (sym second) ∙ sym (says-writer b k l 0 some) ∙ w.first-writer k (says-within b k l 0 some);
            versions = versions-fit;
          }

    parts : Shaped b
    parts = record {
      head = record {
        long = sizes.0.0;
        whole = sizes.0.1;
        some_key = sizes.1.0.0;
        few-keys = sizes.1.0.1;
        few-commits = sizes.1.1.0;
        spare = spares.0.0;
      };
      body = record { entries = entry; keys = key; ends = sizes.1.1.1 };
    }

  -- ---- and the other way

  module _ (h : Shaped b) where
    module _ (k : Key) (m : 0 < count s k) where
      of-key : k < image_keys b
      of-key = says-only b k 0 m

      fits-there : KeyFits b (key_place b k) (image_commits b)
      fits-there = h.body.keys k of-key

      there : (i : ℕ) → i < count s k → i < n k
      there = within-said b k of-key

      zero-value : (version s k 0).value ≡ 0
      zero-value =
          let first : key_place b k + 4 + 16 * 0 ≡ key_place b k + 4 = omega arith in
          says-value b k of-key 0 fits-there.some-version ∙ ap (λ (p : ℕ). le_at b p 4) first ∙ fits-there.first-value

      zero-writer : writer_at b (base k) 0 ≡ 0
      zero-writer = let second : key_place b k + 4 + 16 * 0 + 4 ≡ key_place b k + 8 = omega arith in ap (λ (p : ℕ). le_at b p 1) second ∙ fits-there.first-writer

      later-writer : (i : ℕ) → 0 < i → i < count s k → IsCommit s.commits (version s k i).writer
      later-writer i p l =
          let at = there i l in
          let e = says-writer b k of-key i at in
          let other = fits-there.versions.writes-once 0 i p at in
          says-commit b _ (positive (version s k i).writer (λ z. other (zero-writer ∙ sym (sym e ∙ z))), subst (λ (x : ℕ). x ≤ image_commits b) (sym e) (fits-there.versions.writer i at))
        where
          positive : (x : ℕ) → ¬ (x ≡ 0) → 0 < x
          positive x z = omega arith

      known-reader : (i c : ℕ) → i < count s k → T (has (version s k i).readers c) → IsCommit s.commits c
      known-reader i c l t =
          let at = there i l in
          says-commit b c ((commit-set-is (image_commits b) c).0 ((subset-is (readers_at b (base k) i) (commit_set (image_commits b))).0 (fits-there.versions.readers i at) c
          (subst (λ (x : ℕ). T (has x c)) (says-readers b k of-key i at) t)))

      never-writes : (i j : ℕ) → i < j → j < count s k → ¬ ((version s k i).writer ≡ (version s k j).writer)
      never-writes i j p l e =
          let at = there j l in
          let before : i < n k = omega (arith, at) in
          fits-there.versions.writes-once i j p at (sym (says-writer b k of-key i before) ∙ e ∙ says-writer b k of-key j at)

      never-reads : (i j c : ℕ) → i < j → j < count s k → T (has (version s k i).readers c) → ¬ T (has (version s k j).readers c)
      never-reads i j c p l x y =
          let at = there j l in
          let before : i < n k = omega (arith, at) in
          (empty-is (bit_and (readers_at b (base k) i) (readers_at b (base k) j))).0 (fits-there.versions.reads-once i j p at) c
          ((both_is (readers_at b (base k) i) (readers_at b (base k) j) c).1
          (subst (λ (z : ℕ). T (has z c)) (says-readers b k of-key i before) x, subst (λ (z : ℕ). T (has z c)) (says-readers b k of-key j at) y))

    -- a version, so that there is version 0
    some-there : (k i : ℕ) → i < count s k → 0 < count s k
    some-there k i l = omega arith

    writes-once : (k i j : ℕ) → i < count s k → j < count s k → (version s k i).writer ≡ (version s k j).writer → i ≡ j
    writes-once k i j li lj e = go (dec_lt i j) (dec_lt j i)
      where
        go : Dec (i < j) → Dec (j < i) → i ≡ j
        go (yes p) d = absurd (never-writes k (some-there k i li) i j p lj e)
        go (no p) (yes q) = absurd (never-writes k (some-there k i li) j i q li (sym e))
        go (no p) (no q) = omega arith

    reads-once : (c k i j : ℕ) → i < count s k → j < count s k → T (has (version s k i).readers c) → T (has (version s k j).readers c) → i ≡ j
    reads-once c k i j li lj x y = go (dec_lt i j) (dec_lt j i)
      where
        go : Dec (i < j) → Dec (j < i) → i ≡ j
        go (yes p) d = absurd (never-reads k (some-there k i li) i j c p lj x y)
        go (no p) (yes q) = absurd (never-reads k (some-there k i li) j i c q li y x)
        go (no p) (no q) = omega arith

    never-entries : (a t : ℕ) → a < t → IsCommit (image_commits b) a → IsCommit (image_commits b) t → s.client_of a ≡ s.client_of t → ¬ (s.session_of a ≡ s.session_of t)
    never-entries a t l ca ct e f =
        (h.body.entries t ct.0 ct.1).new a ca.0 l (sym (says-client b a ca) ∙ e ∙ says-client b t ct, sym (says-session b a ca) ∙ f ∙ says-session b t ct)

    entries-once : (a t : ℕ) → IsCommit s.commits a → IsCommit s.commits t → s.client_of a ≡ s.client_of t → s.session_of a ≡ s.session_of t → a ≡ t
    entries-once a t ca ct e f = go (dec_lt a t) (dec_lt t a)
      where
        go : Dec (a < t) → Dec (t < a) → a ≡ t
        go (yes p) d = absurd (never-entries a t p (commit-said b a ca) (commit-said b t ct) e f)
        go (no p) (yes q) = absurd (never-entries t a q (commit-said b t ct) (commit-said b a ca) (sym e) (sym f))
        go (no p) (no q) = omega arith

    pub shaped-formed : WellFormed s
    shaped-formed = record {
      few-commits = subst (λ (x : ℕ). x ≤ max_commits) (sym (says-commits b)) h.head.few-commits;
      only-keys = λ k i l. says-key b k (says-only b k i l);
      some-version = λ k l. let m = subst (λ (x : ℕ). k < x) (says-keys b) l in says-within b k m 0 (h.body.keys k m).some-version;
      first-value = zero-value;
      first-writer = λ k m. says-writer b k (of-key k m) 0 (fits-there k m).some-version ∙ zero-writer k m;
      writers = λ k i p l. later-writer k (some-there k i l) i p l;
      readers = λ k i c l t. known-reader k (some-there k i l) i c l t;
      writes-once = writes-once;
      reads-once = λ c k i j r q. reads-once c k i j r.0 q.0 r.1 q.1;
      entries = entries-once;
    }

    entry_at : (i : ℕ) → i < image_commits b → EntryFits b (commit_size (image_keys b)) (suc i)
    entry_at i l = h.body.entries (suc i) (omega arith) l

    tests : (Sizes × Clients) × (Spares × WellFormed s)
    tests = (
      (
        ((h.head.long, h.head.whole), ((h.head.some_key, h.head.few-keys), (h.head.few-commits, h.body.ends))),
        λ i l. (entry_at i l).client,
      ),
      (
        ((h.head.spare, λ i l. (entry_at i l).spare), λ k l i m. (h.body.keys k l).versions.spare i m),
        shaped-formed,
      ),
    )

  -- an image that is not misshapen, part by part
  pub shaped-is : T (well_shaped b) ↔ Shaped b
  shaped-is = both tests-are (λ ((x, y), (z, w)). parts x y z w, λ h. tests h)

-- it says a well formed store
pub shaped-store : (b : List ℕ) → T (well_shaped b) → WellFormed (store_of b)
shaped-store b t = shaped-formed b ((shaped-is b).0 t)

-- its length is a number of four bytes
pub shaped-short : (b : List ℕ) → Bytes b → Shaped b → length b < 2 ^ 32
shaped-short b bytes h = omega (arith, le_at-lt b bytes 4 0, h.head.whole)
