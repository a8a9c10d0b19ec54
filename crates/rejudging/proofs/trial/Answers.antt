-- `rejudging::trial` meets its contract: both engines answer what the definitions do. Assumes nothing.
use mathlib.Core.Path.{sym, ◌∙◌}
use Rattle.rejudging.proofs.Agree.{longest-agrees}
use Rattle.rejudging.proofs.trial.Goals as goal

pub returns : goal.returns
returns c =
    let fast = c.judge-fast.ensures in
    let slow = c.plain-slow.ensures in record { fast = fast.answer; plain = slow.answer; same = λ l. fast.answer ∙ longest-agrees _ fast.longest _ l ∙ sym slow.answer; image = fast.image }
