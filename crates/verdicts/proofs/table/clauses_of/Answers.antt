-- `verdicts::table::clauses_of` meets its contract. Assumes nothing.
use Rattle.verdicts.proofs.TableOfLevels.{table-entry}
use Rattle.verdicts.proofs.table.clauses_of.Goals as goal

pub returns : goal.returns
returns c = table-entry c.args.level c.requires
