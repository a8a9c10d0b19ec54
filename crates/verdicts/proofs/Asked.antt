-- The clauses that are still asked for: those of the levels that have not failed, level by level; and a clause that is in no set that has nothing in common with
-- them. Assumes nothing.
use Prim.Native.Nat.{ℕ, ◌+◌, ◌<◌}
use mathlib.Core.Path.{◌≡◌, subst}
use mathlib.Core.Logic.{◌⊎◌, inl, inr, ◌≢◌}
use mathlib.Core.List.{List}
use native.Mathlib.Omega.{arith}
use native.Mathlib.Decide.{ℕ_discrete}
use lib.Dec.{T}
use lib.Bits.{bit_and}
use lib.ListN.{get_or}
use Rattle.search.proofs.Tests.{same}
use Rattle.sets.specs.Set.{Set, has, union}
use Rattle.sets.proofs.Laws.{has-none}
use Rattle.sets.proofs.Algebra.{both_is}
use Rattle.levels.specs.Clause.{Clause, monotonic_reads, read_your_writes, monotonic_writes, writes_follow_reads, update_atomic, consistent_prefix, snapshot_isolation, serialisability, clause_number}
use Rattle.levels.specs.Level.{clauses_of}
use Rattle.state.specs.Keeps.{IsSet}
use Rattle.state.proofs.Sets.{is_set-union}
use Rattle.verdicts.specs.Verdicts.{level_at, numbers_of, clause_place, ClausesIn, Live}
use Rattle.verdicts.proofs.FirstFailing.{clause-of-number}

pub not-asked : (live clauses : Set) → bit_and live clauses ≡ 0 → (j : ℕ) → T (has clauses j) → ¬ T (has live j)
not-asked live clauses e j t h = has-none j (subst (λ (m : Set). T (has m j)) e ((both_is live clauses j).1 (h, t)))

-- the set has the clauses of the levels below l that have not failed
abbrev pub LiveBelow : List ℕ → ℕ → Set → Type 0
LiveBelow verdicts l live = (i : ℕ) → i < l → get_or verdicts (clause_place i) 0 ≡ 0 → ClausesIn i live

pub live-take : (verdicts : List ℕ) (l : ℕ) (all : Set) {clauses all' : Set} → LiveBelow verdicts l all → clauses ≡ numbers_of (clauses_of (level_at l)) → all' ≡ union all clauses
    → LiveBelow verdicts (l + 1) all'
live-take verdicts l all {clauses} {all'} h e q i m z = go (ℕ_discrete i l)
  where
    either : IsSet (union all clauses) (λ j. T (has all j) ⊎ T (has clauses j))
    either = is_set-union all clauses (λ j. same) (λ j. same)

    go : Dec (i ≡ l) → ClausesIn i all'
    go (yes x) j t = rw q ((either j).1 (inr (subst (λ (y : Set). T (has y j)) (rw (x, e)) t)))
    go (no x) j t = rw q ((either j).1 (inl (h i (omega arith) z j t)))

pub live-skip : (verdicts : List ℕ) (l : ℕ) (all : Set) → LiveBelow verdicts l all → get_or verdicts (clause_place l) 0 ≢ 0 → LiveBelow verdicts (l + 1) all
live-skip verdicts l all h n i m z = go (ℕ_discrete i l)
  where
    go : Dec (i ≡ l) → ClausesIn i all
    go (yes x) = absurd (n (subst (λ (y : ℕ). get_or verdicts y 0 ≡ 0) x z))
    go (no x) = h i (omega arith) z

-- where all eight are taken, those of every level are
pub every-clause : (verdicts : List ℕ) → Live verdicts 510
every-clause verdicts i l z j t = let (x, e) = clause-of-number (clauses_of (level_at i)) j t in subst (λ (n : ℕ). T (has 510 n)) e (in_all x)
  where
    in_all : (x : Clause) → T (has 510 (clause_number x))
    in_all monotonic_reads = tt
    in_all read_your_writes = tt
    in_all monotonic_writes = tt
    in_all writes_follow_reads = tt
    in_all update_atomic = tt
    in_all consistent_prefix = tt
    in_all snapshot_isolation = tt
    in_all serialisability = tt
