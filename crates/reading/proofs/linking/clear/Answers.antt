-- `reading::linking::clear` meets its contract. Assumes nothing.
use borrow.Author.Rules.{rules}
use native.Mathlib.Omega.{arith}
use Rattle.reading.proofs.Rows.{cleared-all}
use Rattle.reading.proofs.linking.clear.Goals as goal

pub returns : goal.returns
returns c = (omega arith, cleared-all c.fill.new.self (omega arith) (λ j l. search rules))
