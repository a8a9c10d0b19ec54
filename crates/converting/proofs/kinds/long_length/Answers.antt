-- `converting::kinds::long_length` meets its contract. Assumes nothing.
use mathlib.Core.Path.{sym}
use native.Mathlib.Omega.{arith}
use Rattle.converting.proofs.EitherEdition.{commit-few, long-shift-length, long-commit-length}
use Rattle.converting.proofs.kinds.long_length.Goals as goal

pub overflow_mul-result-in-Commit : goal.overflow_mul-result-in-Commit
overflow_mul-result-in-Commit c = let p = c.requires.1 in omega (arith, commit-few p.0 _ c.in-Commit.is p.1)

pub overflow_add-result-in-Commit : goal.overflow_add-result-in-Commit
overflow_add-result-in-Commit c = let p = c.requires.1 in omega (arith, commit-few p.0 _ c.in-Commit.is p.1)

pub overflow_add-result-in-Commit-2 : goal.overflow_add-result-in-Commit-2
overflow_add-result-in-Commit-2 c = let p = c.requires.1 in omega (arith, commit-few p.0 _ c.in-Commit.is p.1)

pub returns-in-Shift-clause-reckoned : goal.returns-in-Shift-clause-reckoned
returns-in-Shift-clause-reckoned c = λ file g. sym (long-shift-length file _ c.in-Shift.is g)

pub returns-in-Commit : goal.returns-in-Commit
returns-in-Commit c = let p = c.requires.1 in record { few = omega (arith, commit-few p.0 _ c.in-Commit.is p.1); reckoned = λ file g. sym (long-commit-length file _ c.in-Commit.is g) }
