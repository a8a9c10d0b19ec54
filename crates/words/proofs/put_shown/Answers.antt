-- `words::put_shown` meets its contract, in each of its three answers. Assumes nothing.
use mathlib.Core.Path.{sym, ap, ◌∙◌}
use Rattle.trace.specs.Result.{taken}
use Rattle.arranging.specs.Answers.{arrangement_of}
use Rattle.words.proofs.PutWords.{told-shown}
use Rattle.words.proofs.put_shown.Goals as goal

pub returns-in-Ok-Order : goal.returns-in-Ok-Order
returns-in-Ok-Order c =
    let put = c.put_count.ensures in
    let is = rw c.in-Ok-Order.is at c.in-Ok-Order.field-0-is in
    told-shown (sym (ap arrangement_of c.in-Ok-Order.is ∙ ap taken is)) c.args.out.now _ _ put.0 put.1

pub returns-in-Ok-Ring : goal.returns-in-Ok-Ring
returns-in-Ok-Ring c =
    let put = c.put_count-in-Ok-Ring.ensures in
    let is = rw c.in-Ok-Ring.is at c.in-Ok-Ring.field-0-is in
    told-shown (sym (ap arrangement_of c.in-Ok-Ring.is ∙ ap taken is)) c.args.out.now _ _ put.0 put.1

pub returns-in-Err : goal.returns-in-Err
returns-in-Err c =
    let put = c.put_refusal.ensures in
    told-shown (sym (ap arrangement_of c.in-Err.is)) c.args.out.now _ _ put.0 put.1
