-- `converting::convert` meets its contract: nothing is asked of the bytes of a file. Assumes nothing.
use mathlib.Core.Path.{sym, subst}
use lib.ListN.{length}
use Rattle.std.proofs.lemmas.Result.{err_from_is_err_and}
use Rattle.endian.specs.Endian.{Bytes}
use Rattle.trace.specs.Edition.{Edition}
use Rattle.answer.specs.Converted.{convert_answer, WrittenSame}
use Rattle.answer.proofs.Converted.{written_same}
use Rattle.taking.proofs.Cases.{says-refused, says-taken}
use Rattle.converting.specs.Answers.{edition_of}
use Rattle.converting.proofs.Answered.{ends_with, refused-file}
use Rattle.converting.proofs.convert.Goals as goal
use Rattle.converting.proofs.convert.Goals.{After-take}

abbrev edition : (c : goal.After-take) → Edition
edition c = edition_of c.args.edition

-- the bytes of the file are bytes
bytes : (c : goal.After-take) → Bytes c.args.file.now
bytes c i = (c.type_inv.file i).fits

pub finish-requires : goal.finish-requires
finish-requires c =
    let taken = c.take.ensures in
    ends_with (says-taken _ _ _ _ _ taken.4 c.in_ok-taken.was).1

pub returns-in_err-taken : goal.returns-in_err-taken
unfolding convert_answer
returns-in_err-taken c =
    let file = c.args.file.now in
    let buffer = c.args.buffer.now in
    let a = refused-file (edition (goal.at.returns-in_err-taken c).After-take) file buffer _ (says-refused _ _ _ _ _ c.take.ensures.4 c.in_err-taken.was) in
    let p = err_from_is_err_and c.from_residual.result c.from_residual.ensures.1 in
    record { answer = rw (p.1, p.2) a.said; written = a.left; same = subst (WrittenSame (edition (goal.at.returns-in_err-taken c).After-take) file (length buffer)) (sym a.left) (written_same (edition (goal.at.returns-in_err-taken c).After-take) file (bytes (goal.at.returns-in_err-taken c).After-take) buffer) }

pub returns-clause-same : goal.returns-clause-same
returns-clause-same c =
    let file = c.args.file.now in
    let buffer = c.args.buffer.now in
    let e = edition (goal.at.returns-clause-same c).After-take in
    subst (WrittenSame e file (length buffer)) (sym c.finish.ensures.1) (written_same e file (bytes (goal.at.returns-clause-same c).After-take) buffer)
