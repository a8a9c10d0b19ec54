-- `run::read_turn` meets its contract: what was read is counted. Assumes nothing.
use mathlib.Core.Path.{◌≡◌, sym, ◌∙◌, refl}
use borrow.Author.Rules.{rules}
use Rattle.std.specs.Prelude.{Ok, Err}
use Rattle.trace.specs.Meaning.{counted_of}
use Rattle.trace.specs.Sorted.{reading_in}
use Rattle.trace.proofs.Pass.{counted-kept}
use Rattle.run.proofs.read_turn.Goals as goal

pub returns-in_err-sorted-clause-said : goal.returns-in_err-sorted-clause-said
unfolding counted_of
returns-in_err-sorted-clause-said c =
    let is : c.from_residual.result ≡ Err c.in_err-sorted.field-0.0 = search rules in
    (reading_in c.record_at.result, c.record_at.ensures.said, rw (is, c.in_err-sorted.was) refl)

pub returns-clause-said : goal.returns-clause-said
returns-clause-said c =
    let says = rw c.in_ok-sorted.was at c.record_at.ensures.said in
    let counted = sym (c.counted.ensures c.args.file.now c.args.n) ∙ c.in_ok-counted.was in
    (Ok c.in_ok-sorted.sorted.whole, says, sym (counted-kept c.args.file.now c.args.n c.args.made _ counted))
