-- A version appended in the arrays is appended in the store; and the reads and then the writes of a commit are its update. Assumes nothing.
use Rattle.std.proofs.Common.{◌≡◌, ℕ, suc, ◌+◌, ◌*◌, ◌/◌, ◌%◌, ◌^◌, ◌<◌, ◌≤◌, Bool, true, false, T, ◌≢◌, ◌⊎◌, ◌↔◌, List, [], ◌∷◌, ◌++◌, length, get_or, set, sym, refl, ap, ◌∙◌, subst, inl, inr, ⊎_elim, mod-eq_of_lt, arith, length-append, length-set, get_or-set_other, get_or-set_same, pow_pos}
use native.Mathlib.Decide.{dec_lt, ℕ_discrete}
use lib.Bits.{bit_or, or_shifted_r}
use lib.ListN.{get_or-append}
use lib.Seq.{get_or-append_seam}
use Rattle.search.specs.Choose.{when}
use Rattle.search.proofs.Tests.{T?, both}
use Rattle.sets.specs.Set.{Set, has, single, below, union, highest, Gives}
use Rattle.sets.proofs.Laws.{has-highest, single-only}
use Rattle.sets.proofs.Algebra.{insert-below, single-word}
use Rattle.store.specs.Limits.{max_keys, max_commits}
use Rattle.store.specs.Store.{Key, VersionNumber, CommitNumber, Value, Version, opening_version, View, Store, count, next_number, read, write, Commit}
use Rattle.store.specs.Update.{value_of, writes, newest, append, update}
use Rattle.store.proofs.Updated.{note-length, append-none}
use Rattle.growth.specs.Links.{FromWrite}
use Rattle.state.specs.Places.{per_key, numbers, head_place, readers_place, owned_place, full_place, writers_place, packed}
use Rattle.state.specs.Room.{VersionsRoom, KeysRoom}
use Rattle.state.specs.Keeps.{IsSet, KeepsVersions, KeepsKeys}
use Rattle.state.specs.Accesses.{Left}
use Rattle.state.proofs.Sets.{is_set-as, is_set-union, is_set-single, is_set-insert}
use Rattle.state.proofs.Ranks.{writes-rank}
use Rattle.state.proofs.Accesses.{next-key, left-none}
use Rattle.state.proofs.Below.{From, from-turn, from-passed}
use Rattle.operations.specs.Given.{Given, Appending}
use Rattle.operations.specs.PerKey.{WrittenAt}
use Rattle.operations.specs.Change.{free_bit, free, version_added, version_owned, key_grown, reads_noted, writes_appended}
use Rattle.operations.proofs.Noted.{noted-wrote, keys-noted}
use Rattle.operations.proofs.Rows.{VersionAt, WroteIn, Row, KeyRow, of-rows, row_other, key-other, Passed, pass-key, pass-skip}

-- ---- the next version of a key

-- one more than the mask of m versions is the bit of version m
module _ (keys : List ℕ) (k m : ℕ) (l : m ≤ max_commits) (full : get_or keys (full_place k) 0 ≡ below m) where
  free-bit : free_bit keys k ≡ single m
  free-bit = rw full (ap (λ (x : ℕ). x % 2 ^ 64) (omega (arith, pow_pos m)) ∙ mod-eq_of_lt (single-word m (omega arith)))

  free-number : free keys k ≡ m
  free-number = rw free-bit (single-only m (highest (single m)) (has-highest (single m) (pow_pos m) (single-word m (omega arith))))

union-below : (m : ℕ) → union (below m) (single m) ≡ below (suc m)
unfolding union
union-below = insert-below

-- value | (me << 32)
packed-or : (value writer : ℕ) → value < 2 ^ 32 → bit_or value (writer * 2 ^ 32) ≡ packed value writer
packed-or value writer l = or_shifted_r writer 32 value l ∙ (omega arith)

-- ---- one key gains a version

abbrev new : Value → CommitNumber → Version
new x t = record { value = x; writer = t; readers = 0 }

longer : (vs : List Version) (v : Version) → length (vs ++ (v ∷ [])) ≡ suc (length vs)
longer vs v = simp length-append (omega arith)

-- who wrote which version afterwards
wrote-longer : (vs : List Version) (x : Value) (t a i : ℕ) → (WroteIn vs a i ⊎ ((a ≡ t) × (i ≡ length vs))) ↔ WroteIn (vs ++ (new x t ∷ [])) a i
wrote-longer vs x t a i = (into, λ w. out w (dec_lt i (length vs)))
  where
    last : (get_or (vs ++ (new x t ∷ [])) (length vs) opening_version).writer ≡ t
    last = ap (λ (v : Version). v.writer) (get_or-append_seam vs (new x t) [] opening_version)

    early : i < length vs → (get_or (vs ++ (new x t ∷ [])) i opening_version).writer ≡ (get_or vs i opening_version).writer
    early m = ap (λ (v : Version). v.writer) (get_or-append vs (new x t ∷ []) opening_version i m)

    into : WroteIn vs a i ⊎ ((a ≡ t) × (i ≡ length vs)) → WroteIn (vs ++ (new x t ∷ [])) a i
    into (inl (m, e)) = (omega (arith, longer vs (new x t)), early m ∙ e)
    into (inr (e, j)) = (omega (arith, longer vs (new x t)), rw j (last ∙ sym e))

    out : WroteIn (vs ++ (new x t ∷ [])) a i → Dec (i < length vs) → WroteIn vs a i ⊎ ((a ≡ t) × (i ≡ length vs))
    out (m, e) (yes l) = inl (l, sym (early l) ∙ e)
    out (m, e) (no n) =
        let j : i ≡ length vs = omega (arith, longer vs (new x t)) in
        inr (sym e ∙ ap (λ (q : ℕ). (get_or (vs ++ (new x t ∷ [])) q opening_version).writer) j ∙ last, j)

module _ (before : List ℕ) (k : Key) (x : Value) (t : CommitNumber) (vs : List Version) (b : k < max_keys) (c : t < numbers) (l : length vs ≤ max_commits) (f : x < 2 ^ 32)
    (r : Row before k vs) where
  abbrev at : ℕ
  at = head_place k (length vs)

  abbrev added : List ℕ
  added = version_added before at (packed x t)

  abbrev own : ℕ
  own = owned_place t k

  abbrev mine : Set
  mine = union (get_or added own 0) (single (length vs))

  long : length added ≡ length before
  long = length-set (set before at (packed x t)) _ 0 ∙ length-set before at _

  -- a place among the rows of the commits is left alone by the version itself
  owned-stays : (a : ℕ) → a < numbers → get_or added (owned_place a k) 0 ≡ get_or before (owned_place a k) 0
  owned-stays a m = get_or-set_other (set before at (packed x t)) (readers_place k (length vs)) (owned_place a k) 0 0 (λ q. omega arith) ∙ get_or-set_other before at (owned_place a k) _ 0 (λ q. omega arith)

  version-added : Row (version_owned added own (single (length vs))) k (vs ++ (new x t ∷ []))
  version-added = record {
    room = length-set added own mine ∙ long ∙ r.room;
    few = omega (arith, longer vs (new x t));
    each = λ i m. let v = go i (dec_lt i (length vs)) (omega (arith, longer vs (new x t))) in
        record {
          head = get_or-set_other added own (head_place k i) mine 0 (λ q. omega (arith, longer vs (new x t))) ∙ v.head;
          readers = get_or-set_other added own (readers_place k i) mine 0 (λ q. omega (arith, longer vs (new x t))) ∙ v.readers;
          fits = v.fits;
        };
    owned = λ a p m. whose a p m (ℕ_discrete a t);
  }
    where
      whose : (a : ℕ) → 0 < a → a < numbers → Dec (a ≡ t) → IsSet (get_or (version_owned added own (single (length vs))) (owned_place a k) 0) (WroteIn (vs ++ (new x t ∷ [])) a)
      whose a p m (yes e) = rw (e, get_or-set_same added own mine 0 (omega (arith, long, r.room)), owned-stays t c)
          (is_set-as _ (λ i. both (part i) (wrote-longer vs x t t i)) (is_set-union (get_or before own 0) (single (length vs)) (r.owned t (omega arith) c) (is_set-single (length vs))))
        where
          part : (i : ℕ) → (WroteIn vs t i ⊎ (i ≡ length vs)) ↔ (WroteIn vs t i ⊎ ((t ≡ t) × (i ≡ length vs)))
          part i = (⊎_elim inl (λ j. inr (refl, j)), ⊎_elim inl (λ (_, j). inr j))
      whose a p m (no n) = rw (get_or-set_other added own (owned_place a k) mine 0 (λ q. n (omega arith)), owned-stays a m)
          (is_set-as _ (λ i. both (inl, ⊎_elim (λ w. w) (λ (e, _). absurd (n e))) (wrote-longer vs x t a i)) (r.owned a p m))

      go : (i : ℕ) → Dec (i < length vs) → i ≤ length vs → VersionAt added k i (get_or (vs ++ (new x t ∷ [])) i opening_version)
      go i (yes m) _ = let o = r.each i m in
          rw (get_or-append vs (new x t ∷ []) opening_version i m) record {
            head = get_or-set_other (set before at (packed x t)) (readers_place k (length vs)) (head_place k i) 0 0 (λ q. omega arith) ∙ get_or-set_other before at (head_place k i) _ 0 (λ q. omega arith) ∙ o.head;
            readers = get_or-set_other (set before at (packed x t)) (readers_place k (length vs)) (readers_place k i) 0 0 (λ q. omega arith) ∙ get_or-set_other before at (readers_place k i) _ 0 (λ q. omega arith) ∙ o.readers;
            fits = o.fits;
          }
      go i (no n) m = let e : i ≡ length vs = omega arith in
          rw (e, get_or-append_seam vs (new x t) [] opening_version) record {
            head = get_or-set_other (set before at (packed x t)) (readers_place k (length vs)) at 0 0 (λ q. omega arith) ∙ get_or-set_same before at _ 0 (omega (arith, r.room));
            readers = get_or-set_same (set before at (packed x t)) (readers_place k (length vs)) 0 0 (omega (arith, length-set before at (packed x t), r.room));
            fits = f;
          }

module _ (before : List ℕ) (k : Key) (x : Value) (t : CommitNumber) (vs : List Version) (b : k < max_keys) (r : KeyRow before k vs) where
  abbrev mid : List ℕ
  mid = set before (full_place k) (union (get_or before (full_place k) 0) (single (length vs)))

  key-grown : KeyRow (key_grown before k (single (length vs)) t) k (vs ++ (new x t ∷ []))
  key-grown = record {
    room = length-set mid _ _ ∙ length-set before _ _ ∙ r.room;
    full = get_or-set_other mid (writers_place k) (full_place k) _ 0 (λ q. omega arith) ∙ get_or-set_same before (full_place k) _ 0 (omega (arith, r.room))
        ∙ ap (λ (m : ℕ). union m (single (length vs))) r.full ∙ union-below (length vs) ∙ ap below (sym (longer vs (new x t)));
    writers = subst (λ (m : ℕ). IsSet m (λ a. (i : ℕ) × WroteIn (vs ++ (new x t ∷ [])) a i))
        (sym (get_or-set_same mid (writers_place k) _ 0 (omega (arith, length-set before (full_place k) (union (get_or before (full_place k) 0) (single (length vs))), r.room))))
        (is_set-as _ (λ a. (into a, out a)) (is_set-insert t (get_or before (writers_place k) 0) r.writers));
  }
    where
      into : (a : ℕ) → (a ≡ t) ⊎ ((i : ℕ) × WroteIn vs a i) → (i : ℕ) × WroteIn (vs ++ (new x t ∷ [])) a i
      into a (inl e) = (length vs, (wrote-longer vs x t a (length vs)).0 (inr (e, refl)))
      into a (inr (i, w)) = (i, (wrote-longer vs x t a i).0 (inl w))

      out : (a : ℕ) → ((i : ℕ) × WroteIn (vs ++ (new x t ∷ [])) a i) → (a ≡ t) ⊎ ((i : ℕ) × WroteIn vs a i)
      out a (i, w) = ⊎_elim (λ v. inr (i, v)) (λ (e, _). inl e) ((wrote-longer vs x t a i).1 w)

-- ---- the other keys stay

module _ (before : List ℕ) (k : Key) (b : k < max_keys) (t : CommitNumber) (q : Key) (n : q ≢ k) (m : q < max_keys) (vs : List Version) where
  appended-other : (x : Value) (i : VersionNumber) → i < per_key → (bit : Set) → Row before q vs → Row (version_owned (version_added before (head_place k i) (packed x t)) (owned_place t k) bit) q vs
  appended-other x i l bit r =
      row_other (version_added before (head_place k i) (packed x t)) (owned_place t k) _ q (λ j o. (λ e. omega arith, λ e. omega arith)) (λ a o e. n (omega arith))
      (row_other (set before (head_place k i) (packed x t)) (readers_place k i) 0 q (λ j o. (λ e. omega arith, λ e. n (omega arith))) (λ a o e. omega arith)
      (row_other before (head_place k i) (packed x t) q (λ j o. (λ e. n (omega arith), λ e. omega arith)) (λ a o e. omega arith) r))

  grown-other : (bit : Set) → KeyRow before q vs → KeyRow (key_grown before k bit t) q vs
  grown-other bit r =
      key-other (set before (full_place k) (union (get_or before (full_place k) 0) bit)) (writers_place k) _ q (λ e. omega arith) (λ e. n (omega arith))
      (key-other before (full_place k) _ q n (λ e. omega arith) r)

-- ---- where the key is written, and where it is not

appended-written : (b : Bool) → T b → (x : Value) (t : CommitNumber) (vs : List Version) → append (when b x) t vs ≡ (vs ++ (new x t ∷ []))
unfolding when append
appended-written true h x t vs = refl
appended-written false h x t vs = absurd h

appended-unwritten : (b : Bool) → ¬ T b → (x : Value) (t : CommitNumber) (vs : List Version) → append (when b x) t vs ≡ vs
unfolding when append
appended-unwritten true h x t vs = absurd (h tt)
appended-unwritten false h x t vs = refl

-- ---- the whole loop

-- the keys below k, of n, have their new versions by commit t
pub record WritesPassed (s : Store) (c : Commit) (t : CommitNumber) (n k : ℕ) (versions keys : List ℕ) : Type 0 where
  pub in-versions : Passed Row s.versions (writes_appended s c t).versions n k versions
  pub in-keys : Passed KeyRow s.versions (writes_appended s c t).versions n k keys

module _ {s : Store} {c : Commit} {versions keys values : List ℕ} {ranks n : ℕ} (g : Appending s c versions keys values ranks n) (t : CommitNumber) where
  unwritten : (j : ℕ) → ¬ T (has ranks (2 * j + 1)) → (a : ℕ) → ¬ WrittenAt s c j a
  unwritten j m a y = m (subst T (writes-rank g.operations j) y.0)

  -- keys that are not written are passed at once
  skipped : (k q : ℕ) (vs ks : List ℕ) → k ≤ q → q ≤ n → ((j : ℕ) → k ≤ j → j < q → ¬ T (has ranks (2 * j + 1))) → WritesPassed s c t n k vs ks → WritesPassed s c t n q vs ks
  skipped k q vs ks l m none p = record {
    in-versions = pass-skip Row s.versions (writes_appended s c t).versions n k q vs l m stays p.in-versions;
    in-keys = pass-skip KeyRow s.versions (writes_appended s c t).versions n k q ks l m stays p.in-keys;
  }
    where
      stays : (j : Key) → k ≤ j → j < q → (writes_appended s c t).versions j ≡ s.versions j
      stays j x y = rw (g.operations.writes j) (appended-unwritten (has ranks (2 * j + 1)) (none j x y) _ t (s.versions j))

  module _ {k : ℕ} {left : Set} (h : Left ranks 1 n k left) (small : n ≤ max_keys) {i rest : Set} (given : Gives left i rest) (vs ks : List ℕ) (p : WritesPassed s c t n k vs ks) where
    abbrev q : Key
    q = i / 2

    before : WritesPassed s c t n q vs ks
    before = let (b, l, r, none) = next-key h given in skipped k q vs ks b (omega arith) none p

    l : q < n
    l = (next-key h given).1

    abbrev x : ℕ
    x = get_or values (2 * q + 1) 0

    f : x < 2 ^ 32
    f = g.operations.value-fits (2 * q + 1)

    here : KeyRow ks q (s.versions q)
    here = before.in-keys.left q (omega arith) l

    bit : free_bit ks q ≡ single (count s q)
    bit = free-bit ks q (count s q) (g.room-left q) here.full

    number : free ks q ≡ count s q
    number = free-number ks q (count s q) (g.room-left q) here.full

    -- the versions of the key afterwards
    grows : (writes_appended s c t).versions q ≡ (s.versions q ++ (new x t ∷ []))
    grows = rw (g.operations.writes q) (appended-written (has ranks (2 * q + 1)) (next-key h given).2 x t (s.versions q))

    -- and its writers before
    pub earlier-turn : (found : Set) → IsSet found (From (WrittenAt s c) k) → {next : Set} → next ≡ union found (get_or ks (writers_place q) 0) → IsSet next (From (WrittenAt s c) (q + 1))
    earlier-turn found y e =
        let (b, _, r, none) = next-key h given in
        from-turn (WrittenAt s c) found y b (λ j a o. unwritten j (none j a o)) _
        (is_set-as _ (λ a. (λ z. (subst T (sym (writes-rank g.operations q)) r, z), λ (_, z). z)) here.writers) e

    pub write-appended : {vs' ks' : List ℕ} → t < numbers → vs' ≡ version_owned (version_added vs (head_place q (free ks q)) (bit_or x (t * 2 ^ 32))) (owned_place t q) (free_bit ks q) → ks' ≡ key_grown ks q (free_bit ks q) t
        → WritesPassed s c t n (q + 1) vs' ks'
    write-appended c' e z = record {
      in-versions = subst (λ (a : List ℕ). Passed Row s.versions (writes_appended s c t).versions n (q + 1) a) (sym (rw (number, packed-or x t f, bit) at e))
          (pass-key Row s.versions (writes_appended s c t).versions n q vs _ l before.in-versions
          (λ j m o w. appended-other vs q (omega (arith, l)) t j m (omega arith) w x (count s q) (omega (arith, g.room-left q)) (single (count s q)))
          (λ r. rw grows (version-added vs q x t (s.versions q) (omega (arith, l)) c' (g.room-left q) f r)));
      in-keys = subst (λ (a : List ℕ). Passed KeyRow s.versions (writes_appended s c t).versions n (q + 1) a) (sym (rw bit at z))
          (pass-key KeyRow s.versions (writes_appended s c t).versions n q ks _ l before.in-keys
          (λ j m o w. grown-other ks q (omega (arith, l)) t j m (omega arith) w (single (count s q)))
          (λ r. rw grows (key-grown ks q x t (s.versions q) (omega (arith, l)) r)));
    }

  -- a key that the store does not have gains nothing
  only-old : (k i : ℕ) → i < count (writes_appended s c t) k → k < n
  only-old k i l = go (T? (writes c k))
    where
      go : Dec (T (writes c k)) → k < n
      go (yes w) = omega (arith, g.write-keys k w, g.keys-are)
      go (no m) = omega (arith, g.only-keys k i (subst (λ (vs : List Version). i < length vs) (append-none (value_of write c.operations k) t (s.versions k) m) l), g.keys-are)

  pub all-earlier : {k : ℕ} {left : Set} → Left ranks 1 n k left → k ≤ n → left ≡ 0 → (found : Set) → IsSet found (From (WrittenAt s c) k) → IsSet found (FromWrite s c)
  all-earlier h l e found y =
      is_set-as found (λ a. (λ (q, _, (r, x)). (q, r, x), λ (q, r, x). (q, omega (arith, g.write-keys q r, g.keys-are), (r, x))))
      (from-passed (WrittenAt s c) found y l (λ j a b. unwritten j (left-none h e j a b)))

  pub writes-appended : {k : ℕ} {left : Set} → Left ranks 1 n k left → (vs ks : List ℕ) → k ≤ n → left ≡ 0 → VersionsRoom vs → KeysRoom ks
      → WritesPassed s c t n k vs ks → KeepsVersions (writes_appended s c t) vs × KeepsKeys (writes_appended s c t) ks
  writes-appended {k} h vs ks l e room room' p =
      let w : WritesPassed s c t n n vs ks = skipped k n vs ks l (omega arith) (λ j x y. left-none h e j x y) p in (
        of-rows (writes_appended s c t) vs n g.keys-are room only-old (λ q m. w.in-versions.done q m),
        record {
          room = room';
          full = λ q m. (w.in-keys.done q (omega (arith, g.keys-are))).full;
          writers = λ q m. (w.in-keys.done q (omega (arith, g.keys-are))).writers;
        },
      )

-- ---- the whole commit

module _ {s : Store} {u : View} {c : Commit} {versions views : List ℕ} {base : ℕ} {values : List ℕ} {ranks n : ℕ}
    (g : Given s u c versions views base values ranks n) (t : CommitNumber) where
  -- after the reads the store is as before but for readers, and the writes can be appended
  pub reads-then-writes : (keys after : List ℕ) → KeepsKeys s keys → KeepsVersions (reads_noted s u c t) after → Appending (reads_noted s u c t) c after keys values ranks n
  reads-then-writes keys after h v = record {
    keys-are = g.keys-are;
    only-keys = λ k i l. g.sound.only-keys k i (rw (noted-length k) at l);
    write-keys = g.fits.write-keys;
    room-left = λ k. omega (arith, noted-length k, g.sound.few k, g.room-left);
    in-versions = v;
    in-keys = keys-noted g t h;
    operations = g.operations;
  }
    where
      noted-length : (k : Key) → count (reads_noted s u c t) k ≡ count s k
      noted-length k = note-length (value_of read c.operations k) (newest u k) t (s.versions k)

  -- the readers noted change no writer
  pub same-earlier : (m : Set) → IsSet m (FromWrite (reads_noted s u c t) c) → IsSet m (FromWrite s c)
  same-earlier m = is_set-as m (λ a. (λ (k, w, (i, x)). (k, w, (i, (noted-wrote g t a k i).1 x)), λ (k, w, (i, x)). (k, w, (i, (noted-wrote g t a k i).0 x))))

  -- "Reads add the commit to that version's readers; writes append": the two together are the update
  pub performed : t ≡ next_number s → (vs ks : List ℕ)
      → KeepsVersions (writes_appended (reads_noted s u c t) c t) vs × KeepsKeys (writes_appended (reads_noted s u c t) c t) ks
      → KeepsVersions (update s u c) vs × KeepsKeys (update s u c) ks
  unfolding update
  performed e vs ks h =
      let (v, k) : KeepsVersions (writes_appended (reads_noted s u c (next_number s)) c (next_number s)) vs × KeepsKeys (writes_appended (reads_noted s u c (next_number s)) c (next_number s)) ks = rw e at h in (
        record { room = v.room; heads = v.heads; readers = v.readers; value-fits = v.value-fits; owned = v.owned },
        record { room = k.room; full = k.full; writers = k.writers },
      )
