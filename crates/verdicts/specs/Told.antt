-- What the verdicts that are answered mean: "Each enum answer has a definition that gives this paper's number and values for each of its
-- cases" (01, Which shape goes where). Assumes nothing.
use Rattle.std.specs.Prelude.{ℕ, List, [], ◌∷◌, map, Result, Ok, Err}
use Rattle.std.proofs.Math.Option.{Option, some, none}
use Rattle.search.specs.Choose.{map_some}
use Rattle.levels.specs.Clause.{clause_number}
use Rattle.levels.specs.Level.{Level, levels, Failure}
use Rattle.verdicts.specs.declared.told.FirstFailure.{FirstFailure}
use Rattle.verdicts.specs.declared.told.Verdicts.{Verdicts}

-- a verdict as it is answered: none where the level accepts; else "record, clause, key and version" of its first failure
pub record Told : Type 0 where
  pub at_record : ℕ
  pub clause : ℕ
  pub key : ℕ
  pub version : ℕ

abbrev pub tell : Failure → Told
tell f = record { at_record = f.at_record; clause = clause_number f.clause; key = f.key; version = f.version }

-- all levels in report order, each with its first failure
abbrev pub tell_all : (Level → Option Failure) → List (Option Told)
tell_all fs = map (λ l. map_some tell (fs l)) levels

-- ---- the answers of the code

abbrev pub verdict_of : Result (Unit {0}) FirstFailure → Option Told
verdict_of (Ok _) = none
verdict_of (Err f) = some (record { at_record = f.record; clause = f.clause; key = f.key.0; version = f.version.0 })

abbrev pub verdicts_of : Verdicts → List (Option Told)
verdicts_of v =
    verdict_of v.mr ∷ verdict_of v.mw ∷ verdict_of v.ryw ∷ verdict_of v.wfr ∷ verdict_of v.cc ∷ verdict_of v.ua
    ∷ verdict_of v.psi ∷ verdict_of v.cp ∷ verdict_of v.si ∷ verdict_of v.ser ∷ []
