-- Loops over the operations of one access. Assumes nothing.
use Prim.Native.Nat.{ℕ, zero, suc, ◌+◌, ◌*◌, ◌/◌, ◌%◌, ◌^◌, ◌≤◌, ◌<◌}
use mathlib.Core.Path.{◌≡◌, refl, sym, ap, ◌∙◌, subst}
use mathlib.Core.Bool.{false, ◌&&◌, not}
use mathlib.Core.Logic.{inr, ⊎_elim}
use native.Mathlib.Omega.{arith}
use native.Mathlib.Nat.{add_comm}
use lib.Dec.{T, eqb, lit<}
use lib.Bits.{bit_and, and_le_r}
use lib.Pow.{shr-shr}
use Rattle.search.specs.Search.{any}
use Rattle.search.proofs.Search.{any-in}
use Rattle.search.proofs.Tests.{false-T, eq_test, and_is, not_is, stable, same}
use Rattle.sets.specs.Set.{Set, has, single, below, lowest, Gives}
use Rattle.sets.proofs.Laws.{has-none, has-lt, has-below, below-has, below_word, has-lowest}
use Rattle.sets.proofs.Algebra.{both_is, gives_is, gives-left, without-word}
use Rattle.store.specs.Limits.{max_keys}
use Rattle.state.specs.Accesses.{rank, Left}

-- ---- one turn of the loop

module _ {ranks access n k : ℕ} {left i rest : Set} (h : Left ranks access n k left) (g : Gives left i rest) where
  -- the key of the turn: there is an operation, and none on the keys before it that are still to be passed
  pub next-key : (k ≤ i / 2) × (i / 2 < n) × T (has ranks (rank access (i / 2))) × ((j : ℕ) → k ≤ j → j < i / 2 → ¬ T (has ranks (rank access j)))
  next-key =
      let (x, d, a, b, t) = h.only i g.held in
      let f : i / 2 ≡ x = omega (arith, d) in (
        omega (arith, f, a),
        omega (arith, f, b),
        subst (λ (y : ℕ). T (has ranks (rank access y))) (sym f) t,
        λ j l m u. let e : i ≤ 2 * j = g.least (2 * j) (h.all j l (omega (arith, f, b)) u) in omega (arith, f, d, e),
      )

  -- it is one of the n keys
  pub turn_below : i / 2 < n
  turn_below = next-key.1

  -- what is left after it
  pub left-rest : Left ranks access n (i / 2 + 1) rest
  left-rest = record {
    word = rw g.others (without-word left (single i) h.word);
    only = λ j t. passed j (gives-left g j t) (h.only j ((gives_is g j).1 (inr t)));
    all = λ j l m t. ⊎_elim (λ e. absurd (omega arith)) (λ x. x) ((gives_is g (2 * j)).0 (h.all j (omega (arith, next-key.0)) m t));
  }
    where
      passed : (j : ℕ) → i < j → (q : ℕ) × (j ≡ 2 * q) × (k ≤ q) × (q < n) × T (has ranks (rank access q)) → (q : ℕ) × (j ≡ 2 * q) × (i / 2 + 1 ≤ q) × (q < n) × T (has ranks (rank access q))
      passed j f (q, d, l, m, t) = (q, d, omega (arith, f, d, h.only i g.held), m, t)

-- where nothing is left, no key from k on has an operation
pub left-none : {ranks : Set} {access n k left : ℕ} → Left ranks access n k left → left ≡ 0 → (j : ℕ) → k ≤ j → j < n → ¬ T (has ranks (rank access j))
left-none h e j l m t = has-none (2 * j) (subst (λ (x : Set). T (has x (2 * j))) e (h.all j l m t))

-- where something is left, a key has an operation
pub left-some : {ranks : Set} {access n k left : ℕ} → Left ranks access n k left → ¬ (left ≡ 0) → (q : ℕ) × T (has ranks (rank access q))
left-some {left = left} h n = let (q, _, _, _, t) = h.only (lowest left) (has-lowest left (omega arith) h.word) in (q, t)

-- ---- where the loop starts

abbrev evens : Set
evens = 0x5555555555555555

odd_even : any 64 (λ i. has evens i && eqb (i % 2) 1) ≡ false
unfolding any
odd_even = refl

odd-missing : (i : ℕ) → T (has evens i) → i % 2 ≡ 0
odd-missing i t = go (i % 2) refl
  where
    l : i < 64
    l = has-lt 64 evens i (lit< tt) t

    go : (x : ℕ) → i % 2 ≡ x → i % 2 ≡ 0
    go zero e = e
    go (suc x) e = absurd (false-T (any 64 (λ j. has evens j && eqb (j % 2) 1)) odd_even (any-in 64 _ i l ((and_is (has evens i) (eqb (i % 2) 1) same same).1 (t, eq_test (i % 2) 1 (omega arith)))))

even-missing : any 32 (λ q. not (has evens (2 * q))) ≡ false
unfolding any
even-missing = refl

even-there : (q : ℕ) → q < 32 → T (has evens (2 * q))
even-there q l = stable (has evens (2 * q)) (λ n. false-T _ even-missing (any-in 32 (λ j. not (has evens (2 * j))) q l ((not_is (has evens (2 * q)) same).1 n)))

shifted : (m a i : ℕ) → has (m / 2 ^ a) i ≡ has m (i + a)
shifted m a i = ap (λ (x : ℕ). eqb (x % 2) 1) (shr-shr m a i) ∙ ap (has m) (add_comm a i)

rank_is : (access q : ℕ) → access < 2 → rank access q ≡ 2 * q + access
rank_is zero q l = omega arith
rank_is (suc zero) q l = refl
rank_is (suc (suc a)) q l = absurd (omega arith)

pub left-starts : (ranks access n : ℕ) → ranks < 2 ^ 64 → access < 2 → n ≤ max_keys → {b : Set} → b ≡ below (2 * n) → Left ranks access n 0 (bit_and (bit_and (ranks / 2 ^ access) evens) b)
left-starts ranks access n l a s e = subst (λ (x : ℕ). Left ranks access n 0 (bit_and (bit_and (ranks / 2 ^ access) evens) x)) (sym e) record {
  word = omega (arith, and_le_r (bit_and (ranks / 2 ^ access) evens) (below (2 * n)), below_word (2 * n) (omega arith));
  only = λ i t. let (y, b) = (both_is _ _ i).0 t in let (x, c) = (both_is _ _ i).0 y in
      let z : i ≡ 2 * (i / 2) = omega (arith, odd-missing i c) in
      (i / 2, z, omega arith, omega (arith, below-has (2 * n) i b), subst (λ (j : ℕ). T (has ranks j)) (ap (λ (j : ℕ). j + access) z ∙ sym (rank_is access (i / 2) a)) (subst T (shifted ranks access i) x));
  all = λ q _ m t. (both_is _ _ (2 * q)).1 ((both_is _ _ (2 * q)).1 (subst T (sym (shifted ranks access (2 * q))) (subst (λ (j : ℕ). T (has ranks j)) (rank_is access q a) t), even-there q (omega arith)), has-below (2 * n) (2 * q) (omega arith));
}
