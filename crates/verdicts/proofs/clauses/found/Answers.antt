-- `verdicts::clauses::found` meets its contract. Assumes nothing.
use mathlib.Core.Path.{refl, sym, ap, ◌∙◌}
use native.Mathlib.Omega.{arith}
use Rattle.search.proofs.Tests.{some-none}
use Rattle.state.specs.Answers.{place_of}
use Rattle.verdicts.proofs.clauses.found.Goals as goal

pub returns-in-Some : goal.returns-in-Some
returns-in-Some c = (λ e. absurd (omega arith), λ e. some-none (sym (ap place_of c.in-Some.is) ∙ e))

pub returns-in-None : goal.returns-in-None
returns-in-None c = (λ e. ap place_of c.in-None.is, λ e. refl)
