-- The operations of a commit sorted by their ranks: "so a key has at most one of each" (01, The trace file). Assumes nothing.
use Prim.Native.Nat.{ℕ, zero, suc, ◌+◌, ◌*◌, ◌%◌, ◌^◌, ◌≤◌, ◌<◌}
use mathlib.Core.Path.{◌≡◌, refl, sym, ap, ap₂, ◌∙◌, subst}
use mathlib.Core.Bool.{Bool, true, false, ◌&&◌, ◌||◌}
use mathlib.Core.Logic.{◌≢◌, ⊎_elim}
use mathlib.Core.Option.{Option, some, none}
use mathlib.Core.List.{List, [], ◌∷◌, ◌++◌}
use native.Mathlib.Omega.{arith}
use native.Mathlib.Nat.{add-zero, mul-zero, one-mul}
use native.Mathlib.Decide.{ℕ_discrete}
use lib.Bits.{bit_or}
use lib.Dec.{T, eqb, eqb→eq, lit<}
use lib.ListN.{length, get_or, set}
use lib.Pow.{shl_exact}
use lib.Seq.{get_or-set_same, get_or-set_other}
use borrow.Author.Tests.{eq-eqb, ne_eqb}
use Rattle.search.specs.Choose.{choose, is_some, when, or_else}
use Rattle.search.proofs.Choose.{is_some-when}
use Rattle.search.proofs.Tests.{T_true, T_false, true-T, eq_test, when-none, same_test}
use Rattle.sets.specs.Set.{Set, has, insert}
use Rattle.sets.proofs.Laws.{has-none, has-insert, insert-has, insert-self}
use Rattle.endian.specs.Endian.{le_at}
use Rattle.store.specs.Limits.{max_keys}
use Rattle.store.specs.Store.{Key, Access, read, write, Operation}
use Rattle.store.specs.Update.{same_access, value_of}
use Rattle.trace.specs.Listed.{touched}
use Rattle.trace.specs.Format.{access_of, operation_at, operations_at, rank_at, operation_fits}
use Rattle.trace.specs.Encode.{access_number}
use Rattle.trace.specs.Sorted.{SortedAs, ValuesFit, touched_by}
use Rattle.trace.proofs.Tests.{operation_fits-is}

-- ---- one operation more

-- the operation behind others
operations_at-last : (s : List ℕ) (start i : ℕ) → operations_at s start (suc i) ≡ operations_at s start i ++ (operation_at s (start + 8 * i) ∷ [])
unfolding operations_at
operations_at-last s start zero = rw (mul-zero 8, add-zero start)
operations_at-last s start (suc i) =
    let place : start + 8 + 8 * i ≡ start + 8 * suc i = omega arith in
    ap (λ os. operation_at s start ∷ os) (operations_at-last s (start + 8) i ∙ ap (λ at. operations_at s (start + 8) i ++ (operation_at s at ∷ [])) place)

or-else-choose : (t : Bool) (v : ℕ) (x y : Option ℕ) → choose t (some v) (or_else x y) ≡ or_else (choose t (some v) x) y
unfolding choose or_else
or-else-choose true v x y = refl
or-else-choose false v x y = refl

value_of-last : (a : Access) (os : List Operation) (o : Operation) (k : ℕ) → value_of a (os ++ (o ∷ [])) k ≡ or_else (value_of a os k) (value_of a (o ∷ []) k)
unfolding value_of or_else
value_of-last a [] o k = refl
value_of-last a (p ∷ os) o k =
    let here = same_access a p.access && eqb p.key k in
    ap (λ x. choose here (some p.value) x) (value_of-last a os o k) ∙ or-else-choose here p.value (value_of a os k) _

or_else_none : (x : Option ℕ) → or_else x none ≡ x
unfolding or_else
or_else_none (some v) = refl
or_else_none none = refl

same-equality : (m n p q : ℕ) → (m ≡ n → p ≡ q) → (p ≡ q → m ≡ n) → eqb m n ≡ eqb p q
same-equality m n p q f g = same_test _ _ (λ t. eq_test p q (f (eqb→eq m n t))) (λ t. eq_test m n (g (eqb→eq p q t)))

-- it is an access to a key where its rank is that of such an access
of-rank : (a : Access) (x key k : ℕ) → x ≤ 1 → (same_access a (access_of x) && eqb key k) ≡ eqb (2 * key + x) (2 * k + access_number a)
unfolding access_of
of-rank read zero key k h = same-equality key k (2 * key + 0) (2 * k + 0) (λ e. omega arith) (λ e. omega arith)
of-rank read (suc x) key k h = sym (ne_eqb (2 * key + suc x) (2 * k + 0) (λ e. omega arith))
of-rank write zero key k h = sym (ne_eqb (2 * key + 0) (2 * k + 1) (λ e. omega arith))
of-rank write (suc x) key k h = same-equality key k (2 * key + suc x) (2 * k + 1) (λ e. omega arith) (λ e. omega arith)

-- a value put at a rank that was not there
module _ (ranks rank v : ℕ) (values : List ℕ) where
  abbrev ValueAt : ℕ → Type 0
  ValueAt q = or_else (when (has ranks q) (get_or values q 0)) (choose (eqb rank q) (some v) none) ≡ when (has (insert rank ranks) q) (get_or (set values rank v) q 0)

  value-here : ¬ T (has ranks rank) → rank < length values → ValueAt rank
  unfolding when choose or_else
  value-here new within = rw (T_false (has ranks rank) new, eq-eqb rank rank refl, T_true (has (insert rank ranks) rank) (insert-self rank ranks), get_or-set_same values rank v 0 within)

  value-elsewhere : (q : ℕ) → q ≢ rank → ValueAt q
  unfolding choose
  value-elsewhere q n =
      let same : has (insert rank ranks) q ≡ has ranks q =
      same_test _ _ (λ t. ⊎_elim (λ old. old) (λ e. absurd (n e)) (insert-has rank ranks q t)) (has-insert rank ranks q) in
      rw (ne_eqb rank q (λ e. n (sym e)), same, get_or-set_other values rank q v 0 n) (or_else_none _)

  put-value : ¬ T (has ranks rank) → rank < length values → (q : ℕ) → ValueAt q
  put-value new within q = here-or-not (ℕ_discrete q rank)
    where
      here-or-not : Dec (q ≡ rank) → ValueAt q
      here-or-not (yes e) = subst ValueAt (sym e) (value-here new within)
      here-or-not (no n) = value-elsewhere q n

-- ---- all operations so far

-- the first i operations from `start` on are sorted, and their ranks are below `low`
pub record SortedUp (s : List ℕ) (start i : ℕ) (ranks : Set) (low : ℕ) (values : List ℕ) : Type 0 where
  pub by_rank : SortedAs s start i ranks values
  pub ranks-below : (r : ℕ) → T (has ranks r) → r < low

pub sorted_none : (s : List ℕ) (start i : ℕ) (values : List ℕ) → i ≡ 0 → SortedUp s start i 0 0 values
unfolding operations_at value_of
sorted_none s start i values none_yet = rw none_yet (record {
  by_rank = λ a k. sym ((when-none _ _).1 (has-none (2 * k + access_number a)));
  ranks-below = λ r t. absurd (has-none r t);
})

-- the next operation fits
module _ {s : List ℕ} {start i low : ℕ} {ranks : Set} {values : List ℕ} (keys : ℕ) {at : ℕ} (h : SortedUp s start i ranks low values) (here : at ≡ start + 8 * i)
    (fits : operation_fits s at keys low ≡ true) where
  pub next_fits : (le_at s at 1 ≤ 1) × (le_at s (at + 1) 1 < keys) × (le_at s (at + 2) 2 ≡ 0) × (low ≤ rank_at s at)
  next_fits = (operation_fits-is s at keys low).0 (true-T _ fits)

  -- its value is put at its rank
  next-by-rank : 2 * keys ≤ length values → SortedAs s start (suc i) (insert (rank_at s at) ranks) (set values (rank_at s at) (le_at s (at + 4) 4))
  unfolding value_of
  next-by-rank long a k =
      let (access, key, zeros, rises) = next_fits in
      let q = 2 * k + access_number a in
      let new : ¬ T (has ranks (rank_at s at)) = λ t. let below : rank_at s at < low = h.ranks-below (rank_at s at) t in omega arith in
      let last : value_of a (operation_at s at ∷ []) k ≡ choose (eqb (rank_at s at) q) (some (le_at s (at + 4) 4)) none =
      ap (λ b. choose b (some (le_at s (at + 4) 4)) none) (of-rank a (le_at s at 1) (le_at s (at + 1) 1) k access) in
      ap (λ os. value_of a os k) (operations_at-last s start i ∙ ap (λ p. operations_at s start i ++ (operation_at s p ∷ [])) (sym here))
      ∙ value_of-last a (operations_at s start i) (operation_at s at) k
      ∙ ap (λ x. or_else x (value_of a (operation_at s at ∷ []) k)) (h.by_rank a k)
      ∙ ap (λ x. or_else (when (has ranks q) (get_or values q 0)) x) last
      ∙ put-value ranks (rank_at s at) (le_at s (at + 4) 4) values new (omega arith) q

  sorted_more : 2 * keys ≤ length values → SortedUp s start (suc i) (insert (rank_at s at) ranks) (suc (rank_at s at)) (set values (rank_at s at) (le_at s (at + 4) 4))
  sorted_more long = let (access, key, zeros, rises) = next_fits in record {
    by_rank = next-by-rank long;
    ranks-below = λ r t. ⊎_elim (λ old. let below = h.ranks-below r old in omega arith) (λ e. omega arith) (insert-has (rank_at s at) ranks r t);
  }

  -- the same in the words of the code, which sets the bit of the rank by a shift
  pub sorted-turn : keys ≤ max_keys → 2 * max_keys ≤ length values → {j rank above v : ℕ} → j ≡ suc i → rank ≡ rank_at s at → above ≡ suc (rank_at s at) → v ≡ le_at s (at + 4) 4
      → SortedUp s start j (bit_or ranks (1 * 2 ^ rank % 2 ^ 64)) above (set values rank v)
  sorted-turn few long {j} {rank} {above} {v} n r b e =
      let (access, key, zeros, rises) = next_fits in
      let bit : 1 * 2 ^ rank % 2 ^ 64 ≡ 2 ^ rank = shl_exact 1 rank 64 (lit< tt) (omega arith) ∙ one-mul (2 ^ rank) in
      rw (n, bit, r, b, e) (sorted_more (omega arith))

-- a value that is a u32, put among others
pub values-put : (values : List ℕ) {rank v : ℕ} → ValuesFit values → rank < length values → v < 2 ^ 32 → ValuesFit (set values rank v)
values-put values {rank} {v} small within fits q = go (ℕ_discrete q rank)
  where
    go : Dec (q ≡ rank) → get_or (set values rank v) q 0 < 2 ^ 32
    go (yes e) = rw (e, get_or-set_same values rank v 0 within) fits
    go (no n) = rw (get_or-set_other values rank q v 0 n) (small q)

-- ---- the keys with an operation, by the ranks

some-chosen : (b : Bool) (v : ℕ) (x : Option ℕ) → is_some (choose b (some v) x) ≡ (b || is_some x)
unfolding choose is_some
some-chosen true v x = refl
some-chosen false v x = refl

-- a key has an operation where it is read or written
touched-values : (os : List Operation) (k : Key) → touched os k ≡ (is_some (value_of read os k) || is_some (value_of write os k))
unfolding touched value_of is_some
touched-values [] k = refl
touched-values (o ∷ os) k =
    ap (λ (b : Bool). eqb o.key k || b) (touched-values os k)
    ∙ either o.access (eqb o.key k) (is_some (value_of read os k)) (is_some (value_of write os k))
    ∙ sym (ap₂ ◌||◌ (some-chosen (same_access read o.access && eqb o.key k) o.value (value_of read os k)) (some-chosen (same_access write o.access && eqb o.key k) o.value (value_of write os k)))
  where
    either : (a : Access) (here r w : Bool) → (here || (r || w)) ≡ (((same_access read a && here) || r) || ((same_access write a && here) || w))
    either read true r w = refl
    either read false r w = refl
    either write true true w = refl
    either write true false w = refl
    either write false r w = refl

-- so by the ranks of the operations it has one of the two of the key
pub touched-sorted : (s : List ℕ) (start m : ℕ) (ranks : Set) (values : List ℕ) → SortedAs s start m ranks values → (k : Key) → touched (operations_at s start m) k ≡ touched_by ranks k
touched-sorted s start m ranks values sorted k =
    touched-values (operations_at s start m) k
    ∙ ap₂ ◌||◌ (ap is_some (sorted read k) ∙ is_some-when (has ranks (2 * k + 0)) _ ∙ ap (has ranks) (add-zero (2 * k))) (ap is_some (sorted write k) ∙ is_some-when (has ranks (2 * k + 1)) _)
