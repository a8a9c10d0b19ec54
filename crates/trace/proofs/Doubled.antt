-- A set of even numbers, each twice a number that passes a test: what is said of the set by the test. Assumes nothing.
use Prim.Native.Nat.{ℕ, zero, suc, ◌+◌, ◌*◌, ◌/◌, ◌%◌, ◌^◌, ◌≤◌, ◌<◌}
use mathlib.Core.Path.{◌≡◌, refl, sym, ap, ◌∙◌, subst}
use mathlib.Core.Bool.{Bool, false, ◌&&◌, ◌||◌, not}
use mathlib.Core.Logic.{inl, inr, ◌⊎◌, ⊎_elim}
use native.Mathlib.Omega.{arith}
use lib.Bits.{bit_and, bit_or}
use lib.Dec.{T, eqb, eqb→eq, lit<}
use lib.Pow.{shr-shr}
use borrow.Author.Tests.{ne_eqb}
use Rattle.search.specs.Choose.{choose}
use Rattle.search.specs.Search.{any, how_many}
use Rattle.search.proofs.Search.{any-in}
use Rattle.search.proofs.Tests.{T_false, and_left, and_right, and_both, or_cases, same_test, eq_test, stable}
use Rattle.sets.specs.Set.{Set, has, single, union, without, size, set_of, Gives}
use Rattle.sets.proofs.Laws.{has-none, has-lt, single-has, single-only}
use Rattle.sets.proofs.Algebra.{has-union, both_is, without_is, gives_is, gives-left, empty-is}
use Rattle.sets.proofs.Counting.{has-set_of, set_of-has, size-how_many}
use Rattle.store.specs.Limits.{max_keys}
use Rattle.trace.specs.Sorted.{touched_by}

abbrev pub Doubled : Set → (ℕ → Bool) → Type 0
Doubled w f = (i : ℕ) → has w i ≡ (eqb (i % 2) 0 && f (i / 2))

-- ---- as many numbers as pass

double-count : (n : ℕ) (f g : ℕ → Bool) → ((i : ℕ) → f i ≡ (eqb (i % 2) 0 && g (i / 2))) → how_many (2 * n) f ≡ how_many n g
unfolding how_many choose
double-count zero f g d = refl
double-count (suc n) f g d =
    let two : 2 * suc n ≡ suc (suc (2 * n)) = omega arith in
    let odd : suc (2 * n) % 2 ≡ 1 = omega arith in
    let even : 2 * n % 2 ≡ 0 = omega arith in
    let half : 2 * n / 2 ≡ n = omega arith in
    let rest = double-count n f g d in
    rw (two, d (suc (2 * n)), odd, d (2 * n), even, half) (omega (arith, rest))

pub doubled-size : (w : Set) (f : ℕ → Bool) → w < 2 ^ 64 → Doubled w f → size w ≡ how_many max_keys f
doubled-size w f word d = size-how_many 64 w word ∙ double-count 32 (has w) f d

-- ---- one number after the other

module _ (w m : Set) (d : Doubled w (has m)) where
  has-double : (k : ℕ) → has w (2 * k) ≡ has m k
  has-double k =
      let even : 2 * k % 2 ≡ 0 = omega arith in
      let half : 2 * k / 2 ≡ k = omega arith in
      d (2 * k) ∙ rw (even, half) refl

  double-has : (i : ℕ) → T (has w i) → (i % 2 ≡ 0) × T (has m (i / 2))
  double-has i t =
      let both = subst T (d i) t in
      (eqb→eq (i % 2) 0 (and_left (eqb (i % 2) 0) (has m (i / 2)) both), and_right (eqb (i % 2) 0) (has m (i / 2)) both)

  pub doubled-none : w ≡ 0 → m ≡ 0
  doubled-none none = (empty-is m).1 (λ k t. has-none (2 * k) (subst (λ (x : Set). T (has x (2 * k))) none (subst T (sym (has-double k)) t)))

  module _ {i : ℕ} {rest : Set} (given : Gives w i rest) where
    abbrev half : ℕ
    half = i / 2

    even : i % 2 ≡ 0
    even = (double-has i given.held).0

    pub doubled-gives : Gives m half (without m (single half))
    doubled-gives = record {
      held = (double-has i given.held).1;
      least = λ k t. let e : i ≤ 2 * k = given.least (2 * k) (subst T (sym (has-double k)) t) in omega arith;
      bound = omega (arith, given.bound);
      others = refl;
    }

    pub doubled-rest : Doubled rest (has (without m (single half)))
    doubled-rest j = same_test _ _ to from
      where
        to : T (has rest j) → T (eqb (j % 2) 0 && has (without m (single half)) (j / 2))
        to t =
            let (old, there) = double-has j ((gives_is given j).1 (inr t)) in
            let above = gives-left given j t in
            and_both (eqb (j % 2) 0) _ (eq_test (j % 2) 0 old) ((without_is m (single half) (j / 2)).1 (there, λ x. let same = single-only half (j / 2) x in omega (arith, same, even, old, above)))

        from : T (eqb (j % 2) 0 && has (without m (single half)) (j / 2)) → T (has rest j)
        from t =
            let zero = eqb→eq (j % 2) 0 (and_left (eqb (j % 2) 0) (has (without m (single half)) (j / 2)) t) in
            let (old, other) = (without_is m (single half) (j / 2)).0 (and_right (eqb (j % 2) 0) (has (without m (single half)) (j / 2)) t) in
            ⊎_elim (λ e. absurd (other (rw e (single-has half)))) (λ x. x) ((gives_is given j).0 (subst T (sym (d j)) (and_both (eqb (j % 2) 0) (has m (j / 2)) (eq_test (j % 2) 0 zero) old)))

-- ---- the first ranks of the keys with an operation

-- the numbers below 64 of which the digit of this word is 1 are the even ones
abbrev evens : Set
evens = 0x5555555555555555

digit-of : (i : ℕ) → i < 64 → evens / 2 ^ i % 2 + i % 2 ≡ 1
unfolding any
digit-of i below = eqb→eq (evens / 2 ^ i % 2 + i % 2) 1 (stable (eqb (evens / 2 ^ i % 2 + i % 2) 1) (λ n. subst T none (any-in 64 other i below (no (eqb (evens / 2 ^ i % 2 + i % 2) 1) n))))
  where
    other : ℕ → Bool
    other j = not (eqb (evens / 2 ^ j % 2 + j % 2) 1)

    none : any 64 other ≡ false
    none = refl

    no : (b : Bool) → ¬ T b → T (not b)
    no b n = rw (T_false b n) tt

has-half : (m i : ℕ) → has (m / 2) i ≡ has m (i + 1)
has-half m i = let after : 1 + i ≡ i + 1 = omega arith in ap (λ (x : ℕ). eqb (x % 2) 1) (shr-shr m 1 i ∙ ap (λ (j : ℕ). m / 2 ^ j) after)

has_either : (m i : ℕ) → has (bit_or m (m / 2)) i ≡ (has m i || has m (i + 1))
unfolding union
has_either m i = has-union m (m / 2) i ∙ ap (λ (b : Bool). has m i || b) (has-half m i)

-- in the words of the code
pub even-or-next : (m : Set) → m < 2 ^ 64 → (i : ℕ) → has (bit_and (bit_or m (m / 2)) evens) i ≡ (eqb (i % 2) 0 && (has m i || has m (i + 1)))
even-or-next m word i = same_test _ _ to from
  where
    to : T (has (bit_and (bit_or m (m / 2)) evens) i) → T (eqb (i % 2) 0 && (has m i || has m (i + 1)))
    to t =
        let (one, is-even) = (both_is (bit_or m (m / 2)) evens i).0 t in
        let digit = digit-of i (has-lt 64 evens i (lit< tt) is-even) in
        let is_one = eqb→eq (evens / 2 ^ i % 2) 1 is-even in
        and_both (eqb (i % 2) 0) (has m i || has m (i + 1)) (eq_test (i % 2) 0 (omega arith)) (subst T (has_either m i) one)

    below : T (has m i) ⊎ T (has m (i + 1)) → i < 64
    below (inl t) = has-lt 64 m i word t
    below (inr t) = let next = has-lt 64 m (i + 1) word t in omega arith

    from : T (eqb (i % 2) 0 && (has m i || has m (i + 1))) → T (has (bit_and (bit_or m (m / 2)) evens) i)
    from t =
        let even = eqb→eq (i % 2) 0 (and_left (eqb (i % 2) 0) (has m i || has m (i + 1)) t) in
        let one = and_right (eqb (i % 2) 0) (has m i || has m (i + 1)) t in
        let digit = digit-of i (below (or_cases (has m i) (has m (i + 1)) one)) in
        (both_is (bit_or m (m / 2)) evens i).1 (subst T (sym (has_either m i)) one, eq_test (evens / 2 ^ i % 2) 1 (omega arith))

-- the keys with an operation, by the ranks
abbrev pub touched_set : Set → Set
touched_set ranks = set_of max_keys (touched_by ranks)

pub touched_set-has : (ranks : Set) → ranks < 2 ^ 64 → (k : ℕ) → has (touched_set ranks) k ≡ touched_by ranks k
touched_set-has ranks word k =
    same_test _ _ (λ t. (has-set_of max_keys (touched_by ranks) k t).1) (λ t. set_of-has max_keys (touched_by ranks) k (below (or_cases (has ranks (2 * k)) (has ranks (2 * k + 1)) t)) t)
  where
    below : T (has ranks (2 * k)) ⊎ T (has ranks (2 * k + 1)) → k < max_keys
    below (inl t) = let b = has-lt 64 ranks (2 * k) word t in omega arith
    below (inr t) = let b = has-lt 64 ranks (2 * k + 1) word t in omega arith

-- their first ranks are twice as much
pub firsts-doubled : (ranks w : Set) → ((i : ℕ) → has w i ≡ (eqb (i % 2) 0 && (has ranks i || has ranks (i + 1)))) → Doubled w (touched_by ranks)
firsts-doubled ranks w is i = is i ∙ go (i % 2) refl
  where
    go : (p : ℕ) → i % 2 ≡ p → (eqb (i % 2) 0 && (has ranks i || has ranks (i + 1))) ≡ (eqb (i % 2) 0 && touched_by ranks (i / 2))
    go zero e = let same : i ≡ 2 * (i / 2) = omega arith in ap (λ (j : ℕ). eqb (i % 2) 0 && (has ranks j || has ranks (j + 1))) same
    go (suc p) e = rw (e, ne_eqb (suc p) 0 (omega arith))

pub firsts-of : (ranks w : Set) → ranks < 2 ^ 64 → Doubled w (touched_by ranks) → Doubled w (has (touched_set ranks))
firsts-of ranks w word d i = d i ∙ ap (λ (b : Bool). eqb (i % 2) 0 && b) (sym (touched_set-has ranks word (i / 2)))
