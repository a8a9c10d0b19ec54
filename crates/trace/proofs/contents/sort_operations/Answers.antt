-- `trace::contents::sort_operations` meets its contract: operations that fit are not refused. Assumes nothing.
use borrow.Author.Rules.{rules}
use mathlib.Core.Path.{◌≡◌}
use Rattle.std.specs.Prelude.{Some}
use Rattle.trace.proofs.Sorting.{says-fit, says-some}
use Rattle.trace.proofs.contents.sort_operations.Goals as goal

pub unwrap-requires : goal.unwrap-requires
unwrap-requires c = says-some _ _ _ _ _ _ c.requires.0.1 c.sort.ensures.said

pub returns : goal.returns
returns c =
    let is : c.sort.result ≡ Some c.unwrap.result = search rules in
    (says-fit _ _ _ _ _ is c.sort.ensures.said).1
