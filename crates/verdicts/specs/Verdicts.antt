-- How verdicts are kept: "Levels in report order .. A level keeps its first failure" (01, Clauses and levels). Assumes nothing.
use Rattle.std.specs.Prelude.{ℕ, ◌+◌, ◌*◌, ◌<◌, ◌≡◌, List, [], ◌∷◌, ◌↔◌, ◌≢◌, T, length, get_or, set, Option as CodeOption, Some, None}
use Rattle.std.proofs.Math.Option.{Option, some, none}
use Rattle.search.specs.Choose.{or_else}
use Rattle.sets.specs.Set.{Set, has, insert}
use Rattle.store.specs.Store.{View, Store, Commit}
use Rattle.levels.specs.Clause.{Clause, clause_number, missing_by}
use Rattle.levels.specs.Level.{Level, SER, levels, clauses_of, Failure}
use Rattle.state.specs.declared.Place.{Place}

-- the levels are so many
abbrev pub level_count : ℕ
level_count = length levels

-- the level at a place in report order
abbrev pub level_at : ℕ → Level
level_at i = get_or levels i SER

-- clauses as a set of their numbers
unfoldable pub numbers_of : List Clause → Set
numbers_of [] = 0
numbers_of (x ∷ xs) = insert (clause_number x) (numbers_of xs)

-- ---- the array of verdicts: four tables with a word for each level, in report order

abbrev pub clause_place : ℕ → ℕ
clause_place i = i

abbrev pub record_place : ℕ → ℕ
record_place i = level_count + i

abbrev pub key_place : ℕ → ℕ
key_place i = 2 * level_count + i

abbrev pub version_place : ℕ → ℕ
version_place i = 3 * level_count + i

abbrev pub verdicts_length : ℕ
verdicts_length = 4 * level_count

abbrev pub VerdictsRoom : List ℕ → Type 0
VerdictsRoom verdicts = length verdicts ≡ verdicts_length

-- the four words of a level: the clause is 0 while it has not failed
unfoldable pub KeepsVerdict : List ℕ → ℕ → Option Failure → Type 0
KeepsVerdict verdicts i none = get_or verdicts (clause_place i) 0 ≡ 0
KeepsVerdict verdicts i (some f) =
    (get_or verdicts (clause_place i) 0 ≡ clause_number f.clause) × (get_or verdicts (record_place i) 0 ≡ f.at_record)
    × (get_or verdicts (key_place i) 0 ≡ f.key) × (get_or verdicts (version_place i) 0 ≡ f.version)

pub record KeepsVerdicts (fs : Level → Option Failure) (verdicts : List ℕ) : Type 0 where
  pub room : VerdictsRoom verdicts
  pub verdict : (i : ℕ) → i < level_count → KeepsVerdict verdicts i (fs (level_at i))

-- ---- the clauses that are still asked for: "A level keeps its first failure", so those of the levels that have not failed

-- the clauses of the level at place i are in the set
abbrev pub ClausesIn : ℕ → Set → Type 0
ClausesIn i live = (j : ℕ) → T (has (numbers_of (clauses_of (level_at i))) j) → T (has live j)

-- the set has the clauses of every level that has not failed
abbrev pub Live : List ℕ → Set → Type 0
Live verdicts live = (i : ℕ) → i < level_count → get_or verdicts (clause_place i) 0 ≡ 0 → ClausesIn i live

-- the clause is one of the set
abbrev pub Asked : Set → Clause → Type 0
Asked live x = T (has live (clause_number x))

-- ---- the clauses that a commit fails

-- the clause is asked for, and something is missing by it
abbrev pub Fails : Store → View → Commit → Set → Clause → Type 0
Fails s u c live x = Asked live x × (¬ (missing_by s u c x ≡ none))

-- the set of the numbers of the clauses that are asked for and by which something is missing
pub record FailingClauses (s : Store) (u : View) (c : Commit) (live failing : Set) : Type 0 where
  pub is : (x : Clause) → T (has failing (clause_number x)) ↔ Fails s u c live x

-- ---- a failure written down

-- the words of the level at place i after a search by a clause; a search that found nothing leaves them
unfoldable pub written_down : List ℕ → ℕ → ℕ → ℕ → CodeOption Place → List ℕ
written_down verdicts i clause n (Some p) = set (set (set (set verdicts (clause_place i) clause) (record_place i) n) (key_place i) p.key.0) (version_place i) p.version.0
written_down verdicts i clause n None = verdicts

-- the level at place i keeps its failure, or takes the new one where it had none; the other levels keep theirs; and none that had failed is unfailed again
pub record NotesLevel (i : ℕ) (new : Option Failure) (before after : List ℕ) : Type 0 where
  pub here : (old : Option Failure) → KeepsVerdict before i old → KeepsVerdict after i (or_else old new)
  pub there : (j : ℕ) → j < level_count → j ≢ i → (old : Option Failure) → KeepsVerdict before j old → KeepsVerdict after j old
  pub stays-failed : (j : ℕ) → j < level_count → get_or after (clause_place j) 0 ≡ 0 → get_or before (clause_place j) 0 ≡ 0
