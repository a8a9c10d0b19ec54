-- `listing::put_numbers` meets its contract: after i turns the first i numbers stand in the buffer. Assumes nothing.
use native.Mathlib.Omega.{arith}
use borrow.Author.Rules.{rules}
use Rattle.endian.proofs.Put.{put-none}
use Rattle.listing.specs.Line.{numbers_text}
use Rattle.listing.proofs.Lines.{put-next-number}
use Rattle.listing.proofs.put_numbers.Goals as goal

pub loop-commit-init : goal.loop-commit-init
unfolding numbers_text
loop-commit-init c = search (rules, put-none)

pub loop-commit-preserved : goal.loop-commit-preserved
loop-commit-preserved c = (omega (arith, c.put_field-to.ensures.upper_bound), put-next-number _ _ c.loop-commit.invariant.1 (omega arith) c.put_field-to.ensures.put)
