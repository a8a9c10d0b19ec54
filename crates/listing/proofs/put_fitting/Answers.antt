-- `listing::put_fitting` meets its contract, in each of its four answers. Assumes nothing.
use borrow.Author.Rules.{rules}
use Rattle.search.specs.Choose.{need}
use Rattle.listing.specs.Line.{line_in}
use Rattle.listing.proofs.put_fitting.Goals as goal

pub returns-then-out-lt-LONGEST : goal.returns-then-out-lt-LONGEST
unfolding line_in need
returns-then-out-lt-LONGEST c = search rules

pub returns-then-commits-n : goal.returns-then-commits-n
unfolding line_in need
returns-then-commits-n c = search rules

pub returns-then-n-gt-COMMITS : goal.returns-then-n-gt-COMMITS
unfolding line_in need
returns-then-n-gt-COMMITS c = search rules

pub returns : goal.returns
unfolding line_in need
returns c = search rules
