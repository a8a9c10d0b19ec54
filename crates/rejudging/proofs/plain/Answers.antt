-- `rejudging::plain` meets its contract: nothing is asked of the bytes of a file. Assumes nothing.
use mathlib.Core.Path.{◌∙◌}
use Rattle.std.proofs.lemmas.Result.{err_from_is_err_and}
use Rattle.answer.specs.Answer.{final_store}
use Rattle.taking.proofs.Cases.{says-refused, says-taken}
use Rattle.judging.proofs.Answered.{told-report}
use Rattle.rejudging.proofs.Agree.{plain-refused, plain-taken, engines-agree}
use Rattle.rejudging.proofs.plain.Goals as goal

pub size-requires : goal.size-requires
size-requires c =
    let h = (says-taken _ _ _ _ _ c.take_file.ensures c.in_ok-taken.was).1 in
    (h.in-keys.room, h.in-form.few-keys, h.few-commits)

pub returns-in_err-taken : goal.returns-in_err-taken
returns-in_err-taken c =
    let p = err_from_is_err_and c.from_residual.result c.from_residual.ensures.1 in
    record { answer = rw (p.1, p.2) (plain-refused _ _ (says-refused _ _ _ _ _ c.take_file.ensures c.in_err-taken.was)); agree = engines-agree _ }

pub returns : goal.returns
returns c =
    let h = says-taken _ _ _ _ _ c.take_file.ensures c.in_ok-taken.was in
    let t = h.0 in
    let k = h.1 in record { answer = told-report t k.told k.all-records k.all-commits (c.size.ensures.value_2 (final_store t) k.in-keys k.all-keys k.all-commits) ∙ plain-taken _ t k.accepted; agree = engines-agree _ }
