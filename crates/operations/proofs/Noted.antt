-- A read noted in the arrays is noted in the store. Assumes nothing.
use Rattle.std.proofs.Common.{◌≡◌, ℕ, ◌+◌, ◌*◌, ◌/◌, ◌<◌, ◌≤◌, Bool, true, false, T, ◌≢◌, ◌↔◌, List, length, get_or, set, sym, refl, ap, ◌∙◌, subst, arith, length-set, get_or-set_other, get_or-set_same}
use native.Mathlib.Decide.{ℕ_discrete}
use Rattle.search.specs.Choose.{when}
use Rattle.sets.specs.Set.{Set, has, insert, below, Gives}
use Rattle.store.specs.Limits.{max_keys}
use Rattle.store.specs.Store.{Key, VersionNumber, CommitNumber, Value, Version, opening_version, View, Store, count, version, read, Commit}
use Rattle.store.specs.Update.{value_of, newest, newest_visible, read_by, note_read}
use Rattle.store.specs.History.{Wrote}
use Rattle.store.proofs.Updated.{note-length, note-writer}
use Rattle.state.specs.Places.{per_key, head_place, readers_place, owned_place}
use Rattle.state.specs.Lookup.{visible_in}
use Rattle.state.specs.Room.{VersionsRoom}
use Rattle.state.specs.Keeps.{IsSet, KeepsVersions, KeepsKeys}
use Rattle.state.specs.Accesses.{Left}
use Rattle.state.proofs.Sets.{is_set-as}
use Rattle.state.proofs.Accesses.{next-key, left-none}
use Rattle.operations.specs.Given.{Given}
use Rattle.operations.specs.Change.{reader_added, reads_noted}
use Rattle.operations.proofs.Reading.{seen-exists, seen-is}
use Rattle.operations.proofs.Rows.{VersionAt, WroteIn, Row, of-rows, row_other, Passed, pass-key, pass-skip}

-- one version of a key gains a reader
module _ (before : List ℕ) (k : Key) (v : VersionNumber) (t : CommitNumber) (vs : List Version) (b : k < max_keys) (l : v < length vs) (r : Row before k vs) where
  abbrev place : ℕ
  place = readers_place k v

  reader-added : Row (reader_added before place t) k (set vs v (read_by t (get_or vs v opening_version)))
  reader-added = record {
    room = length-set before place _ ∙ r.room;
    few = omega (arith, length-set vs v (read_by t (get_or vs v opening_version)), r.few);
    each = λ i m. go i (omega (arith, length-set vs v (read_by t (get_or vs v opening_version)))) (ℕ_discrete i v);
    owned = λ a p m. let f = r.few in
        subst (λ (w : ℕ). IsSet w (WroteIn read a)) (sym (get_or-set_other before place (owned_place a k) _ 0 (λ q. omega arith)))
        (is_set-as _ (λ i. (λ (o, e). (omega (arith, long), writer i (ℕ_discrete i v) ∙ e), λ (o, e). (omega (arith, long), sym (writer i (ℕ_discrete i v)) ∙ e))) (r.owned a p m));
  }
    where
      read : List Version
      read = set vs v (read_by t (get_or vs v opening_version))

      long : length read ≡ length vs
      long = length-set vs v (read_by t (get_or vs v opening_version))

      writer : (i : ℕ) → Dec (i ≡ v) → (get_or read i opening_version).writer ≡ (get_or vs i opening_version).writer
      writer i (yes e) = rw (e, get_or-set_same vs v (read_by t (get_or vs v opening_version)) opening_version l)
      writer i (no n) = ap (λ (x : Version). x.writer) (get_or-set_other vs v i (read_by t (get_or vs v opening_version)) opening_version n)

      go : (i : ℕ) → i < length vs → Dec (i ≡ v) → VersionAt (reader_added before place t) k i (get_or (set vs v (read_by t (get_or vs v opening_version))) i opening_version)
      go i m (yes e) =
          let o = r.each v l in
          let f = r.few in
          rw (e, get_or-set_same vs v (read_by t (get_or vs v opening_version)) opening_version l) record {
            head = get_or-set_other before place (head_place k v) _ 0 (λ q. omega arith) ∙ o.head;
            readers = get_or-set_same before place _ 0 (omega (arith, r.room)) ∙ ap (insert t) o.readers;
            fits = o.fits;
          }
      go i m (no e) =
          let o = r.each i m in
          let f = r.few in
          rw (get_or-set_other vs v i (read_by t (get_or vs v opening_version)) opening_version e) record {
            head = get_or-set_other before place (head_place k i) _ 0 (λ q. omega arith) ∙ o.head;
            readers = get_or-set_other before place (readers_place k i) _ 0 (λ q. e (omega arith)) ∙ o.readers;
            fits = o.fits;
          }

noted_other : (before : List ℕ) (k : Key) (v : VersionNumber) (t : CommitNumber) → k < max_keys → v < per_key
    → (q : Key) → q ≢ k → q < max_keys → (vs : List Version) → Row before q vs → Row (reader_added before (readers_place k v) t) q vs
noted_other before k v t b l q n m vs r = row_other before (readers_place k v) _ q (λ i o. (λ e. omega arith, λ e. n (omega arith))) (λ a o e. omega arith) r

-- where the key is read, and where it is not
noted_read : (b : Bool) → T b → (x : Value) (v : VersionNumber) (t : CommitNumber) (vs : List Version) → note_read (when b x) v t vs ≡ set vs v (read_by t (get_or vs v opening_version))
unfolding when note_read
noted_read true h x v t vs = refl
noted_read false h x v t vs = absurd h

noted-unread : (b : Bool) → ¬ T b → (x : Value) (v : VersionNumber) (t : CommitNumber) (vs : List Version) → note_read (when b x) v t vs ≡ vs
unfolding when note_read
noted-unread true h x v t vs = absurd (h tt)
noted-unread false h x v t vs = refl

-- ---- the whole loop

-- the keys below k, of n, have their reads by commit t noted
abbrev pub ReadsPassed : Store → View → Commit → CommitNumber → ℕ → ℕ → List ℕ → Type 0
ReadsPassed s u c t n k versions = Passed Row s.versions (reads_noted s u c t).versions n k versions

module _ {s : Store} {u : View} {c : Commit} {versions views : List ℕ} {base : ℕ} {values : List ℕ} {ranks n : ℕ}
    (g : Given s u c versions views base values ranks n) (t : CommitNumber) where
  -- keys that are not read are passed at once
  skipped : (k q : ℕ) (a : List ℕ) → k ≤ q → q ≤ n → ((j : ℕ) → k ≤ j → j < q → ¬ T (has ranks (2 * j))) → ReadsPassed s u c t n k a → ReadsPassed s u c t n q a
  skipped k q a l m none =
      pass-skip Row s.versions (reads_noted s u c t).versions n k q a l m
      (λ j x y. rw (g.operations.reads j) (noted-unread (has ranks (2 * j)) (none j x y) _ (newest u j) t (s.versions j)))

  module _ {k : ℕ} {left : Set} (h : Left ranks 0 n k left) where
    pub read-noted : n ≤ max_keys → {i rest : Set} → Gives left i rest → (before : List ℕ) {after : List ℕ}
        → {v : VersionNumber} → v ≡ newest u (i / 2) → after ≡ reader_added before (readers_place (i / 2) v) t
        → ReadsPassed s u c t n k before → ReadsPassed s u c t n (i / 2 + 1) after
    read-noted small {i} given before {after} f e p =
        let q = i / 2 in
        let (b, l, r, none) = next-key h given in
        let x : newest u q < count s q = seen-exists g q l in
        let y : count s q ≤ per_key = omega (arith, g.sound.few q, g.room-left) in
        subst (λ (z : List ℕ). ReadsPassed s u c t n (q + 1) z) (sym (rw f at e))
        (pass-key Row s.versions (reads_noted s u c t).versions n q before _ l (skipped k q before b (omega arith) none p)
        (λ j m o vs. noted_other before q (newest u q) t (omega arith) (omega arith) j m (omega arith) vs)
        (λ w. rw (g.operations.reads q, noted_read (has ranks (2 * q)) r (get_or values (2 * q) 0) (newest u q) t (s.versions q)) (reader-added before q (newest u q) t (s.versions q) (omega arith) x w)))

    -- of the key of the turn the code sees what was there before
    pub seen-left : {i rest : Set} → Gives left i rest → (a : List ℕ) → ReadsPassed s u c t n k a → visible_in a (get_or views (base + i / 2) 0) (i / 2) ≡ newest_visible s u (i / 2)
    seen-left {i} given a p =
        let (b, l, _, _) = next-key h given in
        seen-is g (i / 2) l a ((p.left (i / 2) b l).each (newest u (i / 2)) (seen-exists g (i / 2) l)).head

    pub reads-noted : (a : List ℕ) → k ≤ n → left ≡ 0 → VersionsRoom a → ReadsPassed s u c t n k a → KeepsVersions (reads_noted s u c t) a
    reads-noted a l e room p =
        of-rows (reads_noted s u c t) a n g.keys-are room
        (λ q i m. omega (arith, g.sound.only-keys q i (rw (note-length (value_of read c.operations q) (newest u q) t (s.versions q)) at m), g.keys-are))
        (λ q m. (skipped k n a l (omega arith) (λ j x y. left-none h e j x y) p).done q m)

  noted-length : (k : Key) → count (reads_noted s u c t) k ≡ count s k
  noted-length k = note-length (value_of read c.operations k) (newest u k) t (s.versions k)

  same_writer : (k i : ℕ) → i < count s k → (version (reads_noted s u c t) k i).writer ≡ (version s k i).writer
  same_writer k i l = note-writer (value_of read c.operations k) (newest u k) t (s.versions k) i l

  -- versions keep their writers
  pub noted-wrote : (a k i : ℕ) → Wrote s a k i ↔ Wrote (reads_noted s u c t) a k i
  noted-wrote a k i = (λ (l, e). (rw (noted-length k) l, same_writer k i l ∙ e), λ (l, e). let m : i < count s k = rw (noted-length k) at l in (m, sym (same_writer k i m) ∙ e))

  pub keys-noted : {keys : List ℕ} → KeepsKeys s keys → KeepsKeys (reads_noted s u c t) keys
  keys-noted h = record {
    room = h.room;
    full = λ k l. h.full k l ∙ ap below (sym (noted-length k));
    writers = λ k l. is_set-as _ (λ a. (λ (i, w). (i, (noted-wrote a k i).0 w), λ (i, w). (i, (noted-wrote a k i).1 w))) (h.writers k l);
  }
