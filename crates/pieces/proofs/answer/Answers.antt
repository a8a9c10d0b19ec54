-- `pieces::answer` meets its contract: one case of the definition for each test. Assumes nothing.
use mathlib.Core.Path.{sym, ap, ◌∙◌}
use native.Mathlib.Omega.{arith}
use lib.Seq.{length-take-le}
use Rattle.trace.specs.Result.{refused}
use Rattle.pieces.proofs.Judged.{closes-closed, closes-long, closes-short, closes-file}
use borrow.Author.Rules.{rules}
use Rattle.pieces.proofs.answer.Goals as goal

pub returns-then-was-ne0 : goal.returns-then-was-ne0
returns-then-was-ne0 c =
    let a = closes-closed c.args.was c.args.kept.now c.args.image.now (omega arith) in record { result_value = ap refused c.of_record.ensures ∙ a.said; image_after = a.drawn }

pub returns-then-total-gt-BYTES : goal.returns-then-total-gt-BYTES
returns-then-total-gt-BYTES c =
    let a = closes-long c.args.was c.args.kept.now c.args.image.now (omega arith) (omega arith) in record { result_value = ap refused c.of_record-then-total-gt-BYTES.ensures ∙ a.said; image_after = a.drawn }

pub returns-then-kept-total : goal.returns-then-kept-total
returns-then-kept-total c =
    let a = closes-short c.args.was c.args.kept.now c.args.image.now (omega arith) (omega arith) (omega arith) in record { result_value = ap refused c.of_record-then-kept-total.ensures ∙ a.said; image_after = a.drawn }

pub slice_bounds-judge-end : goal.slice_bounds-judge-end
slice_bounds-judge-end c = sym (length-take-le _ _ (search rules))

pub returns : goal.returns
returns c =
    let judged = c.judge.ensures in
    let a = closes-file c.args.was c.args.kept.now c.args.image.now (omega arith) (omega arith) (omega arith) in record { result_value = judged.answer ∙ a.said; image_after = judged.image ∙ a.drawn }
