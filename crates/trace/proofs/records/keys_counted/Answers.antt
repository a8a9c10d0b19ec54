-- `trace::records::keys_counted` meets its contract. Assumes nothing.
use mathlib.Core.Path.{◌∙◌}
use native.Mathlib.Omega.{arith}
use Rattle.trace.proofs.Sorting.{says-fit, firsts-many}
use Rattle.trace.proofs.records.keys_counted.Goals as goal

pub returns-in-Some : goal.returns-in-Some
returns-in-Some c =
    let (values, says) = c.requires.3 in
    let sorted = says-fit _ _ _ _ _ c.in-Some.is says in
    let many = firsts-many _ _ _ _ values _ _ (λ i. (c.type_inv.s i).fits) c.requires.2 (omega (arith, c.first_ranks.type_inv)) sorted c.first_ranks.ensures in
    (c.size.ensures.0 ∙ many, omega (arith, c.size.ensures.1))
