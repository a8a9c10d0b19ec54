-- The commits that wrote some versions, taken one by one, with all that each of them wrote. Assumes nothing.
use Rattle.std.proofs.Common.{◌≡◌, ℕ, ◌+◌, ◌^◌, ◌<◌, ◌≤◌, T, ◌≢◌, ◌↔◌, List, length, get_or, set, sym, ap, ◌∙◌, subst, ap₂, ⊎_elim, arith, length-set, get_or-set_other, get_or-set_same}
use native.Mathlib.Decide.{ℕ_discrete}
use lib.Bits.{bit_and}
use Rattle.search.proofs.Tests.{stable}
use Rattle.sets.specs.Set.{Set, has, single, insert, union, without, lowest}
use Rattle.sets.proofs.Laws.{has-none, insert-has, has-insert, insert-self, has-lowest, single-only}
use Rattle.sets.proofs.Algebra.{both_is, without_is}
use Rattle.dependencies.specs.History.{Holds}
use Rattle.store.specs.Limits.{max_keys, numbers}
use Rattle.store.specs.Store.{Key, VersionNumber, CommitNumber, View, Store, version}
use Rattle.store.specs.History.{Wrote, history, held}
use Rattle.state.specs.Places.{head_place, owned_place, writer_in}
use Rattle.state.specs.Keeps.{IsSet}
use Rattle.state.specs.Rows.{RowAt}
use Rattle.state.proofs.Lookup.{writer-in-head}
use Rattle.state.proofs.Sets.{is_set-none}
use Rattle.state.proofs.Below.{key_more}
use Rattle.views.specs.Parted.{minus, Versions, HoldsOther, Parted, Parting, PartedAt, Subtracted, RowTaken, LackedAt, LackedBelow}
use Rattle.views.proofs.Tests.{has-as, none_more}

-- ---- the loops over the keys

module _ (masks : List ℕ) (base : ℕ) (others : List ℕ) (other : ℕ) where
  -- a word more is the difference
  pub subtracted-more : {k : ℕ} {left : List ℕ} {any : Set} → Subtracted masks base others other k left any → k < max_keys
      → (word : Set) {next : Set} → word ≡ without (get_or masks (base + k) 0) (get_or others (other + k) 0) → next ≡ union any word → Subtracted masks base others other (k + 1) (set left k word) next
  subtracted-more {k} {left} {any} h l word {next} e f = record {
    long = length-set left k word ∙ h.long;
    each = λ q b. each q b (ℕ_discrete q k);
    empty = none_more (λ q. get_or (set left k word) q 0 ≡ 0) k (λ z q b. get_or-set_other left k q word 0 (λ e. omega arith) ∙ h.empty z q b) (λ z. here ∙ z) f;
  }
    where
      here : get_or (set left k word) k 0 ≡ word
      here = get_or-set_same left k word 0 (omega (arith, h.long))

      each : (q : ℕ) → q < k + 1 → Dec (q ≡ k) → get_or (set left k word) q 0 ≡ without (get_or masks (base + q) 0) (get_or others (other + q) 0)
      each q b (yes z) = rw (z, here) e
      each q b (no n) = get_or-set_other left k q word 0 n ∙ h.each q (omega arith)

  -- the differences of the rows of two views
  pub subtracted-views : {n : ℕ} {left : List ℕ} {any : Set} → Subtracted masks base others other n left any → {a b : View} → RowAt n masks base a → RowAt n others other b → RowAt n left 0 (minus a b)
  subtracted-views {left = left} h p q k l = ap (λ (j : ℕ). get_or left j 0) (let e : 0 + k ≡ k = omega arith in e) ∙ h.each k l ∙ ap₂ without (p k l) (q k l)

-- for proofs alone: the words of the first k keys are without what the row has, the others as before; and what they lacked of it is gathered
pub record RowPassed (versions : List ℕ) (row k : ℕ) (before after : List ℕ) (lacks : Set) : Type 0 where
  pub taken : RowTaken versions row k before after
  pub others : (q : Key) → k ≤ q → get_or after q 0 ≡ get_or before q 0
  pub lacked : IsSet lacks (LackedBelow versions row before k)

module _ (versions : List ℕ) (row : ℕ) (before : List ℕ) where
  pub row_more : {k : ℕ} {after : List ℕ} {lacks : Set} → RowPassed versions row k before after lacks → k < length before
      → {word : Set} (lack : Set) {next : Set} → lack ≡ without (get_or versions (row + k) 0) (get_or after k 0) → next ≡ union lacks lack → word ≡ without (get_or after k 0) (get_or versions (row + k) 0)
      → RowPassed versions row (k + 1) before (set after k word) next
  row_more {k} {after} {lacks} h l {word} lack f g e = record {
    taken = record { long = length-set after k word ∙ h.taken.long; each = λ q b. each q b (ℕ_discrete q k) };
    others = λ q b. get_or-set_other after k q word 0 (λ z. omega arith) ∙ h.others q (omega arith);
    lacked = key_more (LackedAt versions row before) lacks h.lacked lack (λ i. rw (← h.others k (omega arith), ← f) (λ x. x, λ x. x)) g;
  }
    where
      each : (q : ℕ) → q < k + 1 → Dec (q ≡ k) → get_or (set after k word) q 0 ≡ without (get_or before q 0) (get_or versions (row + q) 0)
      each q b (yes z) = rw (z, get_or-set_same after k word 0 (omega (arith, h.taken.long)), ← h.others k (omega arith)) e
      each q b (no n) = get_or-set_other after k q word 0 n ∙ h.taken.each q (omega arith)

-- ---- the commits found so far

module _ {s : Store} {d : View} {n : ℕ} {versions : List ℕ} (h : Versions s d n versions) where
  -- none
  pub parting-none : {left : List ℕ} → RowAt n left 0 d → Parting s d n left 0 0
  parting-none {left} row = record {
    still = λ k l i. (λ x. (has-as i (word k l) x, has-none (version s k i).writer), λ (x, _). has-as i (sym (word k l)) x);
    whose = λ t x. absurd (has-none t x);
    halves = is_set-none (λ t (x, _). has-none t x);
  }
    where
      word : (k : Key) → k < n → get_or left k 0 ≡ d k
      word k l = ap (λ (j : ℕ). get_or left j 0) (let e : k ≡ 0 + k = omega arith in e) ∙ row k l

  -- all of them
  pub parting-all : {left : List ℕ} {all half : Set} → Parting s d n left all half → ((k : Key) → k < n → PartedAt s d all k) → Parted s d all half
  parting-all {left} {all} {half} g done = record {
    whose = λ t. (g.whose t, found t);
    halves = λ t. (λ x. let y = (g.halves t).0 x in (g.whose t y.0, y.1), λ (x, y). (g.halves t).1 (found t x, y));
  }
    where
      found : (t : CommitNumber) → Holds (history s) (held d) t → T (has all t)
      found t (k, i, x, w) =
          let l : k < s.keys = h.sound.only-keys k i w.0 in
          subst (λ (a : ℕ). T (has all a)) w.1 (done k (omega (arith, h.number)) i x)

  -- the key that was passed
  pub key-parted : {left : List ℕ} {all half : Set} → Parting s d n left all half → (k : Key) → k < n → {met : Set}
      → ((i : ℕ) → T (has met i) ↔ T (has (get_or left k 0) i)) → met ≡ 0 → PartedAt s d all k
  key-parted {all = all} g k l is e i x = stable (has all (version s k i).writer) (λ y. has-none i (has-as i e ((is i).1 ((g.still k l i).1 (x, y)))))

  -- ---- one commit more

  module _ {left : List ℕ} {all half : Set} (g : Parting s d n left all half) (k : Key) (l : k < n) {met : Set} (is : (i : ℕ) → T (has met i) ↔ T (has (get_or left k 0) i))
      (word : met < 2 ^ 64) (p : met ≢ 0) {v : VersionNumber} (low : v ≡ lowest met) {t : CommitNumber} (by : t ≡ writer_in (get_or versions (head_place k v) 0)) (b : t < numbers)
      {after : List ℕ} (row : RowTaken versions (owned_place t 0) n left after) where
    -- the version that was met, and its writer
    met_has : T (has met v)
    met_has = rw low (has-lowest met (omega arith) word)

    mine : T (has (d k) v)
    mine = ((g.still k l v).0 ((is v).0 met_has)).0

    by-writer : t ≡ (version s k v).writer
    by-writer =
        let x = h.exist k v mine in
        by ∙ writer-in-head s h.sound (omega (arith, h.few)) k v x (h.in-versions.heads k v x) (h.in-versions.value-fits k v x)

    wrote : Wrote s t k v
    wrote = (h.exist k v mine, sym by-writer)

    -- it was not found before
    new : ¬ T (has all t)
    new x = ((g.still k l v).0 ((is v).0 met_has)).1 (subst (λ (a : ℕ). T (has all a)) by-writer x)

    -- its row
    own : (q : Key) → q < n → IsSet (get_or versions (owned_place t 0 + q) 0) (Wrote s t q)
    own q m =
        subst (λ (j : ℕ). IsSet (get_or versions j 0) (Wrote s t q)) (let e : owned_place t q ≡ owned_place t 0 + q = omega arith in e)
        (h.in-versions.owned t (rw by-writer (h.by-commit k v mine)) b q (omega (arith, h.number)))

    -- its versions that are left are those in d
    left-mine : (q : Key) → q < n → (i : ℕ) → Wrote s t q i → T (has (d q) i) → T (has (get_or left q 0) i)
    left-mine q m i w x = (g.still q m i).1 (x, λ y. new (subst (λ (a : ℕ). T (has all a)) w.1 y))

    after-still : (q : Key) → q < n → (i : ℕ) → T (has (get_or after q 0) i) ↔ (T (has (d q) i) × (¬ T (has (insert t all) (version s q i).writer)))
    after-still q m i = (out, back)
      where
        out : T (has (get_or after q 0) i) → T (has (d q) i) × (¬ T (has (insert t all) (version s q i).writer))
        out x =
            let y = (without_is (get_or left q 0) (get_or versions (owned_place t 0 + q) 0) i).0 (has-as i (row.each q m) x) in
            let z = (g.still q m i).0 y.0 in
            (z.0, λ f. ⊎_elim z.1 (λ e. y.1 ((own q m i).1 (h.exist q i z.0, e))) (insert-has t all _ f))

        back : T (has (d q) i) × (¬ T (has (insert t all) (version s q i).writer)) → T (has (get_or after q 0) i)
        back (x, f) = has-as i (sym (row.each q m)) ((without_is (get_or left q 0) (get_or versions (owned_place t 0 + q) 0) i).1 (
          (g.still q m i).1 (x, λ y. f (has-insert t all _ y)),
          λ y. f (subst (λ (a : ℕ). T (has (insert t all) a)) (sym ((own q m i).0 y).1) (insert-self t all)),
        ))

    after-whose : (a : CommitNumber) → T (has (insert t all) a) → Holds (history s) (held d) a
    after-whose a x = ⊎_elim (g.whose a) (λ e. subst (Holds (history s) (held d)) (sym e) (k, v, mine, wrote)) (insert-has t all a x)

    module _ {lacks : Set} (say : IsSet lacks (LackedBelow versions (owned_place t 0) left n)) where
      -- all that it wrote is in d
      pub parting-whole : lacks ≡ 0 → {next more : Set} → next ≡ insert t all → more ≡ half → Parting s d n after next more
      parting-whole e {next} {more} f z = rw (f, z) record {
        still = after-still;
        whose = after-whose;
        halves = λ a. (λ x. let y = (g.halves a).0 x in (has-insert t all a y.0, y.1), λ (x, y). ⊎_elim (λ w. (g.halves a).1 (w, y)) (λ w. absurd (no_other (subst (HoldsOther s d) w y))) (insert-has t all a x));
      }
        where
          no_other : ¬ HoldsOther s d t
          no_other (q, i, x, w) =
              let m : q < n = let c : q < s.keys = h.sound.only-keys q i w.0 in omega (arith, h.number) in
              has-none i (has-as i e ((say i).1 (q, m, (without_is (get_or versions (owned_place t 0 + q) 0) (get_or left q 0) i).1 ((own q m i).1 w, λ y. x ((g.still q m i).0 y).0))))

      -- something is not
      pub parting-half : lacks < 2 ^ 64 → lacks ≢ 0 → {next more : Set} → next ≡ insert t all → more ≡ insert t half → Parting s d n after next more
      parting-half small e {next} {more} f z = rw (f, z) record {
        still = after-still;
        whose = after-whose;
        halves = λ a. (
          λ x. ⊎_elim (λ y. let w = (g.halves a).0 y in (has-insert t all a w.0, w.1)) (λ y. (subst (λ (j : ℕ). T (has (insert t all) j)) (sym y) (insert-self t all), subst (HoldsOther s d) (sym y) other)) (insert-has t half a x),
          λ (x, y). ⊎_elim (λ w. has-insert t half a ((g.halves a).1 (w, y))) (λ w. subst (λ (j : ℕ). T (has (insert t half) j)) (sym w) (insert-self t half)) (insert-has t all a x),
        );
      }
        where
          other : HoldsOther s d t
          other =
              let i = lowest lacks in
              let (q, m, x) = (say i).0 (has-lowest lacks (omega arith) small) in
              let y = (without_is (get_or versions (owned_place t 0 + q) 0) (get_or left q 0) i).0 x in
              let w = (own q m i).0 y.0 in
              (q, i, (λ z. y.1 (left-mine q m i w z)), w)

    -- what is met of the key is what is left of it
    pub met-more : {rest next : Set} → rest ≡ without met (single (lowest met)) → next ≡ bit_and (get_or after k 0) rest → (i : ℕ) → T (has next i) ↔ T (has (get_or after k 0) i)
    met-more {rest} {next} e f i = (
      λ x. ((both_is (get_or after k 0) rest i).0 (has-as i f x)).0,
      λ x. has-as i (sym f) ((both_is (get_or after k 0) rest i).1 (x, has-as i (sym e) ((without_is met (single (lowest met)) i).1 (before x, passed x)))),
    )
      where
        parts : T (has (get_or after k 0) i) → T (has (get_or left k 0) i) × (¬ T (has (get_or versions (owned_place t 0 + k) 0) i))
        parts x = (without_is (get_or left k 0) (get_or versions (owned_place t 0 + k) 0) i).0 (has-as i (row.each k l) x)

        before : T (has (get_or after k 0) i) → T (has met i)
        before x = (is i).1 (parts x).0

        passed : T (has (get_or after k 0) i) → ¬ T (has (single (lowest met)) i)
        passed x y = (parts x).1 ((own k l i).1 (subst (Wrote s t k) (low ∙ sym (single-only (lowest met) i y)) wrote))

-- ---- where the difference is empty there are none

pub parted-none : (masks : List ℕ) (base : ℕ) (others : List ℕ) (other : ℕ) {n : ℕ} {left : List ℕ} {any : Set} → Subtracted masks base others other n left any → any ≡ 0
    → {s : Store} {a b : View} {versions : List ℕ} → Versions s (minus a b) n versions → RowAt n masks base a → RowAt n others other b → Parted s (minus a b) 0 0
parted-none masks base others other {n} {left} sub e {s} {a} {b} h p q =
    parting-all h start (λ k l i x. absurd (has-none i (has-as i (sub.empty e k l) ((start.still k l i).1 (x, has-none (version s k i).writer)))))
  where
    start : Parting s (minus a b) n left 0 0
    start = parting-none h (subtracted-views masks base others other sub p q)
