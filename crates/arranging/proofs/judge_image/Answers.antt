-- `arranging::judge_image` meets its contract, in each of its three answers. Assumes nothing.
use borrow.Author.Rules.{rules}
use mathlib.Core.Path.{sym, ap, ◌∙◌}
use native.Mathlib.Omega.{arith}
use Rattle.search.proofs.Tests.{true-T}
use Rattle.trace.specs.Result.{refused, taken}
use Rattle.arranging.proofs.Misshapen.{misshapen-answer, misshapen-after}
use Rattle.arranging.proofs.Answered.{short-answer, short-after, shaped-long, few-commits, rows-between, whole-answer, whole-after}
use Rattle.arranging.proofs.Claim.{image-claim}
use Rattle.arranging.proofs.judge_image.Goals as goal

pub returns-then-not-shape : goal.returns-then-not-shape
returns-then-not-shape c =
    let b = c.args.image.now in
    let bad = sym c.shape.ensures ∙ c.if-not-shape.true in record { answer = ap refused c.of_record.ensures ∙ misshapen-answer b bad _; shown = misshapen-after b bad _; holds = image-claim b }

pub returns-then-out-lt-COMMITS : goal.returns-then-out-lt-COMMITS
returns-then-out-lt-COMMITS c =
    let b = c.args.image.now in
    let good = sym c.shape.ensures ∙ c.if-not-shape.false in record { answer = ap refused c.of_record-then-out-lt-COMMITS.ensures ∙ short-answer b good _ (omega arith); shown = short-after b good _ (omega arith); holds = image-claim b }

pub fill-requires : goal.fill-requires
fill-requires c = (true-T _ (sym c.shape.ensures ∙ c.if-not-shape.false), search rules)

pub byte_at-commits-requires : goal.byte_at-commits-requires
byte_at-commits-requires c = omega (arith, shaped-long c.args.image.now (sym c.shape.ensures ∙ c.if-not-shape.false))

pub order_or_ring-requires : goal.order_or_ring-requires
order_or_ring-requires c =
    let b = c.args.image.now in
    let good = sym c.shape.ensures ∙ c.if-not-shape.false in
    (search rules, omega (arith, c.byte_at-commits.ensures.0, few-commits b good), rows-between b good c.fill.new.rows c.fill.ensures.1 c.byte_at-commits.ensures.0, omega arith)

pub returns : goal.returns
returns c =
    let b = c.args.image.now in
    let good = sym c.shape.ensures ∙ c.if-not-shape.false in
    let rows = c.fill.new.rows in
    let keep = c.fill.ensures.1 in
    let count = c.byte_at-commits.ensures.0 in record { answer = ap taken c.order_or_ring.ensures.shown ∙ whole-answer b good rows keep count _ (omega arith); shown = c.order_or_ring.ensures.written ∙ whole-after b good rows keep count _ (omega arith); holds = image-claim b }
