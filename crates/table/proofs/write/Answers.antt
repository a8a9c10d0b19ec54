-- `table::write` meets its contract, in each of its four answers. Assumes nothing.
use borrow.Author.Rules.{rules}
use Rattle.search.specs.Choose.{need}
use Rattle.table.specs.Table.{table_in}
use Rattle.table.proofs.write.Goals as goal

pub returns-then-out-lt-LONGEST : goal.returns-then-out-lt-LONGEST
unfolding table_in need
returns-then-out-lt-LONGEST c = search rules

pub returns-then-rows-n : goal.returns-then-rows-n
unfolding table_in need
returns-then-rows-n c = search rules

pub returns-then-n-gt-COMMITS : goal.returns-then-n-gt-COMMITS
unfolding table_in need
returns-then-n-gt-COMMITS c = search rules

pub returns : goal.returns
unfolding table_in need
returns c = search rules
