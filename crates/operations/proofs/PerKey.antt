-- What one key adds to the commits from which a commit reads, to those that overwrote what it reads, and to those that wrote before it.
-- Assumes nothing.
use Rattle.std.proofs.Common.{◌≡◌, ℕ, ◌+◌, ◌*◌, ◌/◌, ◌<◌, ◌≤◌, T, ◌↔◌, List, get_or, sym, refl, ap, ◌∙◌, subst, arith}
use native.Mathlib.Decide.{dec_lt}
use Rattle.search.proofs.Tests.{both}
use Rattle.sets.specs.Set.{Set, has, single, below, union, without, Gives}
use Rattle.sets.proofs.Laws.{has-below, below-has}
use Rattle.store.specs.Store.{Key, View, Store, version, Commit}
use Rattle.store.specs.Update.{reads, newest}
use Rattle.store.specs.History.{Wrote}
use Rattle.growth.specs.Ordered.{Ordered}
use Rattle.growth.specs.Links.{FromRead, ToLater}
use Rattle.state.specs.Places.{writers_place}
use Rattle.state.specs.Keeps.{IsSet, KeepsKeys, WroteKey}
use Rattle.state.specs.Accesses.{Left}
use Rattle.state.proofs.Sets.{is_set-as, is_set-single, is_set-without}
use Rattle.state.proofs.Ranks.{reads-rank}
use Rattle.state.proofs.Accesses.{next-key, left-none}
use Rattle.state.proofs.Below.{From, from-turn, from-passed}
use Rattle.operations.specs.Given.{Given}
use Rattle.operations.specs.PerKey.{ReadAt, LaterAt}
use Rattle.operations.proofs.Reading.{seen-exists}

module _ {s : Store} {u : View} {c : Commit} {versions views : List ℕ} {base : ℕ} {values : List ℕ} {ranks n : ℕ}
    (g : Given s u c versions views base values ranks n) where
  pub unread : (k : Key) → ¬ T (has ranks (2 * k)) → ¬ T (reads c k)
  unread k m r = m (subst T (reads-rank g.operations k) r)

module _ {s : Store} {u : View} {c : Commit} {versions views : List ℕ} {base : ℕ} {values : List ℕ} {ranks n : ℕ}
    (g : Given s u c versions views base values ranks n) (k : Key) (l : k < n) (h : T (has ranks (2 * k))) {w : ℕ} (is : w ≡ (version s k (newest u k)).writer) where
  is_read : T (reads c k)
  is_read = subst T (sym (reads-rank g.operations k)) h

  pub source-read : {m : Set} → m ≡ single w → IsSet m (ReadAt s u c k)
  source-read {m} r =
      subst (λ (x : ℕ). IsSet x (ReadAt s u c k)) (sym (r ∙ ap single is))
      (is_set-as (single (version s k (newest u k)).writer) (λ t. (λ x. (is_read, sym x), λ (_, x). sym x)) (is_set-single _))

  -- the writers of a key that are above the writer of one of its versions are those of its later versions
  module _ (o : Ordered s) where
    above-later : (b : ℕ) → (WroteKey s k b × (¬ (b < (version s k (newest u k)).writer + 1))) ↔ ((j : ℕ) × (newest u k < j) × Wrote s b k j)
    above-later b = (
      λ ((j, w), n). (j, late j w n (dec_lt (newest u k) j) (dec_lt j (newest u k)), w),
      λ (j, x, w). ((j, w), λ y. let z : (version s k (newest u k)).writer < b = o.writers-rise _ b k (newest u k) j here w x in omega arith),
    )
      where
        here : Wrote s (version s k (newest u k)).writer k (newest u k)
        here = (seen-exists g k l, refl)

        late : (j : ℕ) → Wrote s b k j → ¬ (b < (version s k (newest u k)).writer + 1) → Dec (newest u k < j) → Dec (j < newest u k) → newest u k < j
        late j w n (yes x) d = x
        late j w n (no x) (yes y) = let z : b < (version s k (newest u k)).writer = o.writers-rise b _ k j (newest u k) w here y in absurd (n (omega arith))
        late j w n (no x) (no y) =
            let e : j ≡ newest u k = omega arith in
            let z : (version s k (newest u k)).writer ≡ b = subst (λ (i : ℕ). (version s k i).writer ≡ b) e w.1 in
            absurd (n (omega arith))

    pub later-read : {keys : List ℕ} → KeepsKeys s keys → {f m : Set} → f ≡ below (w + 1) → m ≡ without (get_or keys (writers_place k) 0) f → IsSet m (LaterAt s u c k)
    later-read {keys} kept {f} {m} a r =
        subst (λ (x : ℕ). IsSet x (LaterAt s u c k)) (sym (r ∙ ap (without (get_or keys (writers_place k) 0)) (a ∙ ap (λ (x : ℕ). below (x + 1)) is)))
        (is_set-as _ (λ t. both (above-later t) (λ x. (is_read, x), λ (_, x). x))
        (is_set-without (get_or keys (writers_place k) 0) (below ((version s k (newest u k)).writer + 1)) (kept.writers k (omega (arith, g.keys-are)))
        (λ t. (below-has _ t, has-below _ t))))

-- ---- a turn of the loop, and all keys together

module _ {s : Store} {u : View} {c : Commit} {versions views : List ℕ} {base : ℕ} {values : List ℕ} {ranks n : ℕ}
    (g : Given s u c versions views base values ranks n) {k : ℕ} {left : Set} (h : Left ranks 0 n k left) where
  -- what the keys that are read add, up to the key of the turn
  module _ (P : Key → ℕ → Type 0) (only : (q t : ℕ) → P q t → T (reads c q)) (found : Set) (p : IsSet found (From P k)) where
    pub reads-turn : {i rest : Set} → Gives left i rest → (m : Set) {next : Set} → next ≡ union found m → IsSet m (P (i / 2)) → IsSet next (From P (i / 2 + 1))
    reads-turn given m z x =
        let (b, _, _, none) = next-key h given in
        from-turn P found p b (λ j l o t y. unread g j (none j l o) (only j t y)) m x z

    pub reads_all : k ≤ n → left ≡ 0 → IsSet found (λ t. (q : Key) × P q t)
    reads_all l e =
        is_set-as found (λ t. (λ (q, _, x). (q, x), λ (q, x). (q, omega (arith, g.fits.read-keys q (only q t x), g.keys-are), x)))
        (from-passed P found p l (λ j a b t y. unread g j (left-none h e j a b) (only j t y)))

  pub all-sources : k ≤ n → left ≡ 0 → (found : Set) → IsSet found (From (ReadAt s u c) k) → IsSet found (FromRead s u c)
  all-sources l e found p = is_set-as found (λ t. (λ (q, (r, x)). (q, r, x), λ (q, r, x). (q, (r, x)))) (reads_all (ReadAt s u c) (λ q t x. x.0) found p l e)

  pub all-later : k ≤ n → left ≡ 0 → (found : Set) → IsSet found (From (LaterAt s u c) k) → IsSet found (ToLater s u c)
  all-later l e found p = is_set-as found (λ t. (λ (q, (r, x)). (q, r, x), λ (q, r, x). (q, (r, x)))) (reads_all (LaterAt s u c) (λ q t x. x.0) found p l e)
