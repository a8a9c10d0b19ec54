-- `replaying::write` meets its contract: nothing is asked of the bytes of a file. Assumes nothing.
use mathlib.Core.Path.{sym, subst}
use lib.ListN.{length}
use Rattle.std.proofs.lemmas.Result.{err_from_is_err_and}
use Rattle.endian.specs.Endian.{Bytes}
use Rattle.answer.specs.Written.{replay_answer, ReadsBack}
use Rattle.answer.proofs.Written.{reads-back, replay-fits}
use Rattle.taking.proofs.Cases.{says-refused, says-taken}
use Rattle.replaying.proofs.Answered.{ends_with, refused-replay}
use Rattle.replaying.proofs.write.Goals as goal
use Rattle.replaying.proofs.write.Goals.{After-take}

-- the bytes of the file are bytes
bytes : (c : goal.After-take) → Bytes c.args.file.now
bytes c i = (c.type_inv.file i).fits

pub finish-requires : goal.finish-requires
finish-requires c =
    let taken = c.take.ensures in
    ends_with (says-taken _ _ _ _ _ taken.4 c.in_ok-taken.was).1

pub returns-in_err-taken : goal.returns-in_err-taken
unfolding replay_answer
returns-in_err-taken c =
    let file = c.args.file.now in
    let buffer = c.args.buffer.now in
    let a = refused-replay file buffer _ (says-refused _ _ _ _ _ c.take.ensures.4 c.in_err-taken.was) in
    let p = err_from_is_err_and c.from_residual.result c.from_residual.ensures.1 in
    record { answer = rw (p.1, p.2) a.said; written = a.left; back = subst (ReadsBack file (length buffer)) (sym a.left) (reads-back file (bytes (goal.at.returns-in_err-taken c).After-take) buffer); longest = replay-fits file (bytes (goal.at.returns-in_err-taken c).After-take) }

pub returns-clause-back : goal.returns-clause-back
returns-clause-back c =
    let file = c.args.file.now in
    let buffer = c.args.buffer.now in
    subst (ReadsBack file (length buffer)) (sym c.finish.ensures.1) (reads-back file (bytes (goal.at.returns-clause-back c).After-take) buffer)

pub returns-clause-longest : goal.returns-clause-longest
returns-clause-longest c = replay-fits c.args.file.now (bytes (goal.at.returns-clause-longest c).After-take)
