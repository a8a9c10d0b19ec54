-- "A commit fails a level at its lowest failing clause" (01): of a list of clauses that rise, the one with the lowest number that is both in the list and
-- in the set of failing clauses. Assumes nothing.
use Prim.Native.Nat.{ℕ, zero, suc, ◌-◌, ◌^◌, ◌≤◌, ◌<◌}
use mathlib.Core.Path.{◌≡◌, refl, sym, ap, ◌∙◌, subst}
use mathlib.Core.Bool.{Bool, true, ◌&&◌}
use mathlib.Core.Logic.{◌⊎◌, inl, inr, ⊎_elim, ◌↔◌}
use mathlib.Core.Option.{Option, some, none}
use mathlib.Core.List.{List, [], ◌∷◌}
use native.Mathlib.Omega.{arith}
use lib.Dec.{T, ltb, ltb→lt}
use lib.ListN.{get_or}
use lib.Bits.{bit_and}
use Rattle.search.specs.Choose.{map_some, or_else}
use Rattle.search.proofs.Tests.{T?, some-none, and_left, and_right}
use Rattle.sets.specs.Set.{Set, has, lowest}
use Rattle.sets.proofs.Algebra.{both_is}
use Rattle.sets.proofs.Laws.{has-none, insert-has, has-insert, insert-self, has-lowest, lowest-least}
use Rattle.store.specs.Store.{View, Store, next_number, Commit}
use Rattle.store.specs.Missing.{Place}
use Rattle.levels.specs.Clause.{Clause, monotonic_reads, read_your_writes, monotonic_writes, writes_follow_reads, update_atomic, consistent_prefix, snapshot_isolation, serialisability, clause_number, missing_by}
use Rattle.levels.specs.Level.{SER, levels, clauses_of, Failure, failure, fails_clauses}
use Rattle.verdicts.specs.Verdicts.{level_at, numbers_of, ClausesIn, Asked, Fails, FailingClauses}

-- ---- numbers of clauses

-- the clause of a number
clause_at : ℕ → Clause
clause_at n =
    get_or
    (monotonic_reads ∷ read_your_writes ∷ monotonic_writes ∷ writes_follow_reads ∷ update_atomic ∷ consistent_prefix ∷ snapshot_isolation ∷ serialisability ∷ [])
    (n - 1) serialisability

clause_at-is : (x : Clause) → clause_at (clause_number x) ≡ x
unfolding clause_at
clause_at-is monotonic_reads = refl
clause_at-is read_your_writes = refl
clause_at-is monotonic_writes = refl
clause_at-is writes_follow_reads = refl
clause_at-is update_atomic = refl
clause_at-is consistent_prefix = refl
clause_at-is snapshot_isolation = refl
clause_at-is serialisability = refl

-- a number names one clause
pub same-clause : (x y : Clause) → clause_number x ≡ clause_number y → x ≡ y
same-clause x y e = sym (clause_at-is x) ∙ ap clause_at e ∙ clause_at-is y

-- the clauses are numbered from 1 to 8
pub number-range : (x : Clause) → (0 < clause_number x) × (clause_number x < 9)
number-range monotonic_reads = omega arith
number-range read_your_writes = omega arith
number-range monotonic_writes = omega arith
number-range writes_follow_reads = omega arith
number-range update_atomic = omega arith
number-range consistent_prefix = omega arith
number-range snapshot_isolation = omega arith
number-range serialisability = omega arith

-- a number in the set of a list is that of a clause
pub clause-of-number : (xs : List Clause) (j : ℕ) → T (has (numbers_of xs) j) → (x : Clause) × (clause_number x ≡ j)
unfolding numbers_of
clause-of-number [] j t = absurd (has-none j t)
clause-of-number (x ∷ xs) j t = ⊎_elim (λ h. clause-of-number xs j h) (λ e. (x, sym e)) (insert-has (clause_number x) (numbers_of xs) j t)

-- ---- lists that rise

below_all : ℕ → List Clause → Bool
below_all n [] = true
below_all n (x ∷ xs) = ltb n (clause_number x) && below_all n xs

rising : List Clause → Bool
rising [] = true
rising (x ∷ xs) = below_all (clause_number x) xs && rising xs

below-all-out : (n : ℕ) (xs : List Clause) → T (below_all n xs) → (j : ℕ) → T (has (numbers_of xs) j) → n < j
unfolding numbers_of below_all
below-all-out n [] t j h = absurd (has-none j h)
below-all-out n (x ∷ xs) t j h =
    let l : n < clause_number x = ltb→lt n (clause_number x) (and_left (ltb n (clause_number x)) (below_all n xs) t) in
    ⊎_elim (below-all-out n xs (and_right (ltb n (clause_number x)) (below_all n xs) t) j) (λ e. omega arith) (insert-has (clause_number x) (numbers_of xs) j h)

-- the lists of all levels, by one test
every : {A : Type 0} → (A → Bool) → List A → Bool
every f [] = true
every f (x ∷ xs) = f x && every f xs

every-at : {A : Type 0} (f : A → Bool) (xs : List A) (d : A) → T (f d) → T (every f xs) → (i : ℕ) → T (f (get_or xs i d))
unfolding every
every-at f [] d e t i = e
every-at f (x ∷ xs) d e t zero = and_left (f x) (every f xs) t
every-at f (x ∷ xs) d e t (suc i) = every-at f xs d e (and_right (f x) (every f xs) t) i

levels-rise : (i : ℕ) → T (rising (clauses_of (level_at i)))
unfolding every rising below_all
levels-rise i = every-at (λ l. rising (clauses_of l)) levels SER tt tt i

-- ---- the lowest failing clause of a list

module _ (n : ℕ) (s : Store) (u : View) (c : Commit) (live failing : Set) (h : FailingClauses s u c live failing) where
  -- a clause that is asked for and not in the set has nothing missing
  nothing-missing : (x : Clause) → Asked live x → ¬ T (has failing (clause_number x)) → missing_by s u c x ≡ none
  nothing-missing x a t = go (missing_by s u c x) refl
    where
      go : (o : Option Place) → missing_by s u c x ≡ o → missing_by s u c x ≡ none
      go none e = e
      go (some p) e = absurd (t ((h.is x).1 (a, λ z. some-none (sym e ∙ z))))

  -- one that is in it has the first failure of the lists that it starts
  starts : (x : Clause) → T (has failing (clause_number x)) → (rest : Option Failure)
      → or_else (map_some (failure (next_number s) n x) (missing_by s u c x)) rest ≡ map_some (failure (next_number s) n x) (missing_by s u c x)
  unfolding or_else map_some
  starts x t rest = go (missing_by s u c x) ((h.is x).0 t).1
    where
      go : (o : Option Place) → ¬ (o ≡ none) → or_else (map_some (failure (next_number s) n x) o) rest ≡ map_some (failure (next_number s) n x) o
      go none e = absurd (e refl)
      go (some p) e = refl

  skips : (x : Clause) → Asked live x → ¬ T (has failing (clause_number x)) → (rest : Option Failure) → or_else (map_some (failure (next_number s) n x) (missing_by s u c x)) rest ≡ rest
  unfolding or_else map_some
  skips x a t rest = rw (nothing-missing x a t)

  -- the clauses of a list are asked for
  abbrev AllAsked : List Clause → Type 0
  AllAsked xs = (j : ℕ) → T (has (numbers_of xs) j) → T (has live j)

  pub none-failing : (xs : List Clause) → AllAsked xs → ((j : ℕ) → T (has (numbers_of xs) j) → ¬ T (has failing j)) → fails_clauses n s u c xs ≡ none
  unfolding fails_clauses numbers_of
  none-failing [] a f = refl
  none-failing (x ∷ xs) a f =
      let self = insert-self (clause_number x) (numbers_of xs) in
      skips x (a (clause_number x) self) (f (clause_number x) self) (fails_clauses n s u c xs)
      ∙ none-failing xs (λ j t. a j (has-insert (clause_number x) (numbers_of xs) j t)) (λ j t. f j (has-insert (clause_number x) (numbers_of xs) j t))

  first-failing : (xs : List Clause) → T (rising xs) → AllAsked xs → (x : Clause) → T (has (numbers_of xs) (clause_number x)) → T (has failing (clause_number x))
      → ((j : ℕ) → T (has (numbers_of xs) j) → T (has failing j) → clause_number x ≤ j)
      → fails_clauses n s u c xs ≡ map_some (failure (next_number s) n x) (missing_by s u c x)
  unfolding fails_clauses numbers_of rising
  first-failing [] r a x m t least = absurd (has-none (clause_number x) m)
  first-failing (y ∷ ys) r a x m t least =
      go (T? (has failing (clause_number y))) (insert-has (clause_number y) (numbers_of ys) (clause_number x) m)
      (λ z. first-failing ys (and_right (below_all (clause_number y) ys) (rising ys) r) (λ j w. a j (has-insert (clause_number y) (numbers_of ys) j w)) x z t (λ j w v. least j (has-insert (clause_number y) (numbers_of ys) j w) v))
    where
      later : (j : ℕ) → T (has (numbers_of ys) j) → clause_number y < j
      later = below-all-out (clause_number y) ys (and_left (below_all (clause_number y) ys) (rising ys) r)

      go : Dec (T (has failing (clause_number y))) → T (has (numbers_of ys) (clause_number x)) ⊎ (clause_number x ≡ clause_number y)
          → (T (has (numbers_of ys) (clause_number x)) → fails_clauses n s u c ys ≡ map_some (failure (next_number s) n x) (missing_by s u c x))
          → fails_clauses n s u c (y ∷ ys) ≡ map_some (failure (next_number s) n x) (missing_by s u c x)
      go (yes f) (inr e) ih = rw (same-clause x y e) (starts y f (fails_clauses n s u c ys))
      go (yes f) (inl z) ih =
          let l : clause_number y < clause_number x = later (clause_number x) z in
          let l' : clause_number x ≤ clause_number y = least (clause_number y) (insert-self (clause_number y) (numbers_of ys)) f in
          absurd (omega arith)
      go (no f) (inr e) ih = absurd (f (subst (λ (j : ℕ). T (has failing j)) e t))
      go (no f) (inl z) ih = skips y (a (clause_number y) (insert-self (clause_number y) (numbers_of ys))) f (fails_clauses n s u c ys) ∙ ih z

  -- a level none of whose clauses is in the set does not fail
  pub level-passes : (i : ℕ) → ClausesIn i live → bit_and (numbers_of (clauses_of (level_at i))) failing ≡ 0 → fails_clauses n s u c (clauses_of (level_at i)) ≡ none
  level-passes i a e = none-failing (clauses_of (level_at i)) a (λ j t f. has-none j (subst (λ (m : Set). T (has m j)) e ((both_is (numbers_of (clauses_of (level_at i))) failing j).1 (t, f))))

  -- and another fails by the clause of the lowest number in both sets
  pub level-fails : (i : ℕ) → ClausesIn i live → (struck : Set) → struck ≡ bit_and (numbers_of (clauses_of (level_at i))) failing → 0 < struck → struck < 2 ^ 64
      → (x : Clause) × (clause_number x ≡ lowest struck) × Fails s u c live x × (fails_clauses n s u c (clauses_of (level_at i)) ≡ map_some (failure (next_number s) n x) (missing_by s u c x))
  level-fails i a struck e p l = (x, q, (h.is x).0 (rw q inside.1), first-failing xs (levels-rise i) a x (rw q inside.0) (rw q inside.1) least)
    where
      xs : List Clause
      xs = clauses_of (level_at i)

      members : (j : ℕ) → T (has struck j) ↔ (T (has (numbers_of xs) j) × T (has failing j))
      members j = rw e (both_is (numbers_of xs) failing j)

      inside : T (has (numbers_of xs) (lowest struck)) × T (has failing (lowest struck))
      inside = (members (lowest struck)).0 (has-lowest struck p l)

      x : Clause
      x = (clause-of-number xs (lowest struck) inside.0).0

      q : clause_number x ≡ lowest struck
      q = (clause-of-number xs (lowest struck) inside.0).1

      least : (j : ℕ) → T (has (numbers_of xs) j) → T (has failing j) → clause_number x ≤ j
      least j t f = rw q (lowest-least struck p l j ((members j).1 (t, f)))
