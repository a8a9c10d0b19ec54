-- The values of a store after a commit: versions keep theirs, and a new one has what was written. Assumes nothing.
use Prim.Native.Nat.{ℕ, zero, suc, ◌-◌, ◌<◌}
use mathlib.Core.Path.{◌≡◌, refl, sym, ap, ◌∙◌, subst}
use mathlib.Core.Option
use mathlib.Core.Option.{Option, some, none}
use mathlib.Core.List.{List, [], ◌∷◌}
use native.Mathlib.Omega.{arith}
use lib.Dec.{T}
use lib.ListN.{length, get_or, set}
use lib.Seq.{get_or-append_seam}
use Rattle.search.specs.Choose.{is_some}
use Rattle.search.proofs.Tests.{is_some-some}
use Rattle.store.specs.Store.{Key, Value, Version, opening_version, View, Store, count, version, next_number, read, write, Commit}
use Rattle.store.specs.Update.{value_of, writes, newest, read_by, note_read, append, update}
use Rattle.store.proofs.Updated.{note-length, append-old, append-none, count-written, count-unwritten}
use Rattle.answer.specs.SerialRun.{newest_values}

-- a reader that is noted changes no value
set_value : (t p i : ℕ) (vs : List Version) → (get_or (set vs p (read_by t (get_or vs p opening_version))) i opening_version).value ≡ (get_or vs i opening_version).value
set_value t p i [] = refl
set_value t zero zero (v ∷ vs) = refl
set_value t zero (suc i) (v ∷ vs) = refl
set_value t (suc p) zero (v ∷ vs) = refl
set_value t (suc p) (suc i) (v ∷ vs) = set_value t p i vs

note-value : (o : Option Value) (p t : ℕ) (vs : List Version) (i : ℕ) → (get_or (note_read o p t vs) i opening_version).value ≡ (get_or vs i opening_version).value
unfolding note_read
note-value none p t vs i = refl
note-value (some x) p t vs i = set_value t p i vs

module _ (s : Store) (u : View) (c : Commit) where
  abbrev noted : Key → List Version
  noted k = note_read (value_of read c.operations k) (newest u k) (next_number s) (s.versions k)

  noted-length : (k : Key) → length (noted k) ≡ count s k
  noted-length k = note-length (value_of read c.operations k) (newest u k) (next_number s) (s.versions k)

  noted-value : (k i : ℕ) → (get_or (noted k) i opening_version).value ≡ (version s k i).value
  noted-value k i = note-value (value_of read c.operations k) (newest u k) (next_number s) (s.versions k) i

  pub value-kept : (k i : ℕ) → i < count s k → (version (update s u c) k i).value ≡ (version s k i).value
  unfolding update
  value-kept k i l =
      ap (λ (v : Version). v.value) (append-old (value_of write c.operations k) (next_number s) (noted k) i (omega (arith, noted-length k)))
      ∙ noted-value k i

  pub value-new : (k : Key) (x : Value) → value_of write c.operations k ≡ some x → (version (update s u c) k (count s k)).value ≡ x
  unfolding update append
  value-new k x e =
      subst (λ (i : ℕ). (get_or (append (value_of write c.operations k) (next_number s) (noted k)) i opening_version).value ≡ x) (noted-length k)
      (subst (λ (o : Option Value). (get_or (append o (next_number s) (noted k)) (length (noted k)) opening_version).value ≡ x) (sym e)
      (ap (λ (v : Version). v.value) (get_or-append_seam (noted k) (record { value = x; writer = next_number s; readers = 0 }) [] opening_version)))

  -- a key that is not written keeps its values, and no key that the store lacks gets one
  value-unwritten : (k i : ℕ) → ¬ T (writes c k) → (version (update s u c) k i).value ≡ (version s k i).value
  unfolding update
  value-unwritten k i n =
      ap (λ (vs : List Version). (get_or vs i opening_version).value) (append-none (value_of write c.operations k) (next_number s) (noted k) n)
      ∙ noted-value k i

  -- the newest value of a key is what was written to it, or stays
  pub newest-update : (k : Key) → newest_values (update s u c) k ≡ Option.get_or (value_of write c.operations k) (newest_values s k)
  unfolding is_some
  newest-update k = go (value_of write c.operations k) refl
    where
      go : (o : Option Value) → value_of write c.operations k ≡ o → newest_values (update s u c) k ≡ Option.get_or o (newest_values s k)
      go (some x) e =
          let more = count-written s u c k (is_some-some (value_of write c.operations k) x e) in
          let last : count (update s u c) k - 1 ≡ count s k = omega arith in
          ap (λ (i : ℕ). (version (update s u c) k i).value) last ∙ value-new k x e
      go none e =
          let unwritten : ¬ T (writes c k) = subst (λ (o : Option Value). ¬ T (is_some o)) (sym e) (λ t. t) in
          ap (λ (n : ℕ). (version (update s u c) k (n - 1)).value) (count-unwritten s u c k unwritten) ∙ value-unwritten k (count s k - 1) unwritten
