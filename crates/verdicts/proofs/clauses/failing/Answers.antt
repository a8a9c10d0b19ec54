-- `verdicts::clauses::failing` meets its contract. Assumes nothing.
use mathlib.Core.Path.{refl}
use Rattle.verdicts.proofs.ByClause.{failing-is}
use Rattle.verdicts.proofs.clauses.failing.Goals as goal

pub returns : goal.returns
returns c = λ s u commit h.
    failing-is s u commit c.args.h h _ _ _ _ _ _ _ _ _ c.found.ensures
    c.mark-a.ensures c.mark-b.ensures c.mark-c.ensures c.mark-d.ensures c.mark-e.ensures c.mark-f.ensures c.mark-g.ensures c.mark-i.ensures refl
