-- `judging::judge` meets its contract: nothing is asked of the bytes of a file. Assumes nothing.
use Rattle.std.proofs.lemmas.Result.{err_from_is_err_and}
use Rattle.endian.specs.Endian.{Bytes}
use Rattle.answer.proofs.Demand3.{demand3}
use Rattle.answer.proofs.Recorded.{image-says}
use Rattle.taking.proofs.Cases.{says-refused, says-taken}
use Rattle.judging.proofs.Answered.{refused-answer}
use Rattle.judging.proofs.Longest.{image-fits}
use Rattle.judging.proofs.judge.Goals as goal
use Rattle.judging.proofs.judge.Goals.{After-take_file}

-- the bytes of the file are bytes
bytes : (c : goal.After-take_file) → Bytes c.args.file.now
bytes c i = (c.type_inv.file i).fits

pub finish-requires : goal.finish-requires
finish-requires c =
    let h = (says-taken _ _ _ _ _ c.take_file.ensures c.in_ok-taken.was).1 in
    (h.in-versions.room, h.in-keys.room, h.in-commits.room, h.views-room, h.in-form.few-keys, h.few-commits)

pub returns-in_err-taken : goal.returns-in_err-taken
returns-in_err-taken c =
    let a = refused-answer _ c.args.buffer.now _ (says-refused _ _ _ _ _ c.take_file.ensures c.in_err-taken.was) in
    let b = bytes (goal.at.returns-in_err-taken c).After-take_file in
    let p = err_from_is_err_and c.from_residual.result c.from_residual.ensures.1 in
    record { answer = rw (p.1, p.2) a.said; image = a.drawn; longest = image-fits _ b; demand3 = demand3 _ b; says = image-says _ b }

pub returns : goal.returns
returns c =
    let h = says-taken _ _ _ _ _ c.take_file.ensures c.in_ok-taken.was in
    let a = c.finish.ensures _ h.0 h.1 in
    let b = bytes (goal.at.returns c).After-take_file in
    record { answer = a.0; image = a.1; longest = image-fits _ b; demand3 = demand3 _ b; says = image-says _ b }
