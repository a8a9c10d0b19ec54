-- What the arrays say of the versions of one key, and a loop over the keys that changes what they say of one key at a time. Assumes nothing.
use Rattle.std.proofs.Common.{◌≡◌, ℕ, ◌+◌, ◌^◌, ◌<◌, ◌≤◌, ◌≢◌, List, length, get_or, set, sym, ◌∙◌, subst, arith, length-set, get_or-set_other}
use native.Mathlib.Decide.{ℕ_discrete, dec_lt}
use Rattle.sets.specs.Set.{below}
use Rattle.store.specs.Store.{Key, VersionNumber, CommitNumber, Version, opening_version, Store, count}
use Rattle.state.specs.Places.{per_key, numbers, head_place, readers_place, owned_place, full_place, writers_place, packed}
use Rattle.state.specs.Room.{VersionsRoom, KeysRoom}
use Rattle.state.specs.Keeps.{IsSet, KeepsVersions}

-- ---- one key

-- a version at its place
pub record VersionAt (versions : List ℕ) (k : Key) (i : VersionNumber) (v : Version) : Type 0 where
  pub head : get_or versions (head_place k i) 0 ≡ packed v.value v.writer
  pub readers : get_or versions (readers_place k i) 0 ≡ v.readers
  pub fits : v.value < 2 ^ 32

-- t wrote version i of these
abbrev pub WroteIn : List Version → CommitNumber → VersionNumber → Type 0
WroteIn vs t i = (i < length vs) × ((get_or vs i opening_version).writer ≡ t)

-- the versions of a key
pub record Row (versions : List ℕ) (k : Key) (vs : List Version) : Type 0 where
  pub room : VersionsRoom versions
  pub few : length vs ≤ per_key
  pub each : (i : ℕ) → i < length vs → VersionAt versions k i (get_or vs i opening_version)
  pub owned : (t : CommitNumber) → 0 < t → t < numbers → IsSet (get_or versions (owned_place t k) 0) (WroteIn vs t)

-- the full mask and the writers of a key
pub record KeyRow (keys : List ℕ) (k : Key) (vs : List Version) : Type 0 where
  pub room : KeysRoom keys
  pub full : get_or keys (full_place k) 0 ≡ below (length vs)
  pub writers : IsSet (get_or keys (writers_place k) 0) (λ t. (i : ℕ) × WroteIn vs t i)

-- a store that the arrays keep, key by key
pub rows_of : {s : Store} {versions : List ℕ} → KeepsVersions s versions → ((k : Key) → count s k ≤ per_key) → (k : Key) → k < s.keys → Row versions k (s.versions k)
rows_of h few k b = record {
  room = h.room;
  few = few k;
  each = λ i l. record { head = h.heads k i l; readers = h.readers k i l; fits = h.value-fits k i l };
  owned = λ t p m. h.owned t p m k b;
}

pub of-rows : (s : Store) (versions : List ℕ) (n : ℕ) → s.keys ≡ n → VersionsRoom versions → ((k i : ℕ) → i < count s k → k < n)
    → ((k : Key) → k < n → Row versions k (s.versions k)) → KeepsVersions s versions
of-rows s versions n e room only h = record {
  room = room;
  heads = λ k i l. ((h k (only k i l)).each i l).head;
  readers = λ k i l. ((h k (only k i l)).each i l).readers;
  value-fits = λ k i l. ((h k (only k i l)).each i l).fits;
  owned = λ t p m k l. (h k (omega (arith, e))).owned t p m;
}

-- ---- a store into an array leaves the other keys alone

module _ (before : List ℕ) (p x : ℕ) (q : Key) where
  pub row_other : {vs : List Version} → ((i : ℕ) → i < per_key → (head_place q i ≢ p) × (readers_place q i ≢ p)) → ((t : ℕ) → t < numbers → owned_place t q ≢ p)
      → Row before q vs → Row (set before p x) q vs
  row_other {vs} apart apart' r = record {
    room = length-set before p x ∙ r.room;
    few = r.few;
    each = λ i l.
        let n = apart i (omega (arith, r.few)) in
        let v = r.each i l in
        record {
          head = get_or-set_other before p (head_place q i) x 0 n.0 ∙ v.head;
          readers = get_or-set_other before p (readers_place q i) x 0 n.1 ∙ v.readers;
          fits = v.fits;
        };
    owned = λ t m b. subst (λ (w : ℕ). IsSet w (WroteIn vs t)) (sym (get_or-set_other before p (owned_place t q) x 0 (apart' t b))) (r.owned t m b);
  }

  pub key-other : {vs : List Version} → full_place q ≢ p → writers_place q ≢ p → KeyRow before q vs → KeyRow (set before p x) q vs
  key-other {vs} n m r = record {
    room = length-set before p x ∙ r.room;
    full = get_or-set_other before p (full_place q) x 0 n ∙ r.full;
    writers = subst (λ (w : ℕ). IsSet w (λ t. (i : ℕ) × WroteIn vs t i)) (sym (get_or-set_other before p (writers_place q) x 0 m)) r.writers;
  }

-- ---- the loop: the keys below k have their new versions, the others still the old

pub record Passed (R : List ℕ → Key → List Version → Type 0) (old new : Key → List Version) (n k : ℕ) (a : List ℕ) : Type 0 where
  pub done : (q : Key) → q < k → R a q (new q)
  pub left : (q : Key) → k ≤ q → q < n → R a q (old q)

module _ (R : List ℕ → Key → List Version → Type 0) (old new : Key → List Version) (n : ℕ) where
  pub pass-key : (k : ℕ) (before after : List ℕ) → k < n → Passed R old new n k before
      → ((q : Key) → q ≢ k → q < n → (vs : List Version) → R before q vs → R after q vs) → (R before k (old k) → R after k (new k))
      → Passed R old new n (k + 1) after
  pass-key k before after l p other here = record {
    done = λ q m. go q m (ℕ_discrete q k);
    left = λ q m o. other q (λ e. omega arith) o (old q) (p.left q (omega arith) o);
  }
    where
      go : (q : Key) → q < k + 1 → Dec (q ≡ k) → R after q (new q)
      go q m (yes e) = subst (λ (j : ℕ). R after j (new j)) (sym e) (here (p.left k (omega arith) l))
      go q m (no e) = other q e (omega arith) (new q) (p.done q (omega arith))

  -- keys whose versions stay are passed at once
  pub pass-skip : (k q : ℕ) (a : List ℕ) → k ≤ q → q ≤ n → ((j : Key) → k ≤ j → j < q → new j ≡ old j) → Passed R old new n k a → Passed R old new n q a
  pass-skip k q a l m stays p = record {
    done = λ j o. go j o (dec_lt j k);
    left = λ j o r. p.left j (omega arith) r;
  }
    where
      go : (j : Key) → j < q → Dec (j < k) → R a j (new j)
      go j o (yes y) = p.done j y
      go j o (no y) = subst (λ (vs : List Version). R a j vs) (sym (stays j (omega arith) o)) (p.left j (omega arith) (omega arith))
