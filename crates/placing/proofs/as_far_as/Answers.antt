-- `placing::as_far_as` meets its contract. Assumes nothing.
use borrow.Author.Rules.{rules}
use native.Mathlib.Omega.{arith}
use mathlib.Core.Path.{sym, ◌∙◌}
use Rattle.std.specs.Prelude.{◌≡◌, position, nat_eq, drop}
use Rattle.std.proofs.Common.{tests}
use Rattle.std.proofs.lemmas.Iterator.{YieldsList-from_slice}
use Rattle.std.proofs.lemmas.Slice.{between_to_end}
use Rattle.std.proofs.lemmas.Iterator.Search.{position_from_yields_List}
use Rattle.placing.proofs.Way.{far-found, far_none}
use Rattle.placing.proofs.as_far_as.Goals as goal

pub returns-in-Some : goal.returns-in-Some
returns-in-Some c =
    let p : c.position.result ≡ position (λ x. nat_eq x c.args.c) (drop c.args.from c.args.way.now)
    = position_from_yields_List _ _ _ c.position.result c.position.ensures.ran (YieldsList-from_slice _ (c.iter.ensures.rest ∙ between_to_end c.args.way.now c.args.from _ (omega arith))) (λ x b q k. search (rules, tests)) in
    (omega arith, omega (arith, c.in-Some.ensures.bound), far-found c.args.way.now _ _ _ (sym p ∙ c.in-Some.is))

pub returns-in-None : goal.returns-in-None
returns-in-None c =
    let p : c.position.result ≡ position (λ x. nat_eq x c.args.c) (drop c.args.from c.args.way.now)
    = position_from_yields_List _ _ _ c.position.result c.position.ensures.ran (YieldsList-from_slice _ (c.iter.ensures.rest ∙ between_to_end c.args.way.now c.args.from _ (omega arith))) (λ x b q k. search (rules, tests)) in
    (omega arith, omega arith, far_none c.args.way.now c.args.from _ (sym p ∙ c.in-None.is))
