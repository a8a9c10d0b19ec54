-- `seeing::report` meets its contract: nothing is asked of the bytes of a file. Assumes nothing.
use mathlib.Core.Path.{◌≡◌, refl, sym, ap, ◌∙◌}
use native.Mathlib.Omega.{arith}
use lib.ListN.{length, take, length-take}
use Rattle.std.proofs.lemmas.Result.{err_from_is_err_and}
use Rattle.endian.specs.Endian.{Bytes}
use Rattle.store.specs.Image.{image}
use Rattle.trace.specs.Result.{refused, taken}
use Rattle.trace.specs.Format.{Trace}
use Rattle.answer.specs.Answer.{final_store}
use Rattle.verdicts.specs.Told.{verdicts_of}
use Rattle.judging.specs.Answers.{Judged, told_answer, answer_of}
use Rattle.visible.proofs.Claim.{visibility}
use Rattle.seeing.proofs.Answered.{JudgedOf, judged-of, image-there, image-shaped, store_said, commits-said, short-answer, whole-answer}
use Rattle.seeing.proofs.Refused.{refused-answer}
use Rattle.seeing.proofs.report.Goals as goal
use Rattle.seeing.proofs.report.Goals.{In_ok-judged}

-- the bytes of the file are bytes
bytes : (c : goal.In_ok-judged) → Bytes c.args.file.now
bytes c i = (c.type_inv.file i).fits

-- what it told
abbrev judged : (c : goal.In_ok-judged) → Judged
judged c = let g = c.in_ok-judged.judged in record { verdicts = verdicts_of g.verdicts; records = g.records; commits = g.commits; image_length = g.image_length }

told : (c : goal.In_ok-judged) → told_answer c.args.file.now (length c.args.image.now) ≡ taken (judged c)
told c = sym c.judge.ensures.answer ∙ ap answer_of c.in_ok-judged.was

of : (c : goal.In_ok-judged) → (t : Trace) × JudgedOf c.args.file.now (length c.args.image.now) (judged c) t
of c = judged-of _ _ (judged c) (told c)

-- the image stands in the buffer
there : (c : goal.In_ok-judged) → take (judged c).image_length c.judge.new.buffer ≡ image (final_store (of c).0)
there c = ap (take (judged c).image_length) c.judge.ensures.image ∙ image-there _ (of c).0 (of c).1 c.args.image.now refl

long : (c : goal.In_ok-judged) → (judged c).image_length ≡ length (take (judged c).image_length c.judge.new.buffer)
long c = (of c).1.whole ∙ sym (ap length (there c))

pub returns-then-table-judged : goal.returns-then-table-judged
returns-then-table-judged c =
    let a = short-answer _ _ c.args.table.now _ (told (goal.at.returns-then-table-judged c).In_ok-judged) (of (goal.at.returns-then-table-judged c).In_ok-judged).0 (of (goal.at.returns-then-table-judged c).In_ok-judged).1 (omega arith) in record { answer = ap refused c.of_record.ensures ∙ a.said; image = c.judge.ensures.image; rows = a.left; holds = visibility _ (bytes (goal.at.returns-then-table-judged c).In_ok-judged) }

pub slice_bounds-fill-end : goal.slice_bounds-fill-end
slice_bounds-fill-end c = omega (arith, simp length-take at (long (goal.at.slice_bounds-fill-end c).In_ok-judged))

pub slice_bounds-fill-end-2 : goal.slice_bounds-fill-end-2
slice_bounds-fill-end-2 c = long (goal.at.slice_bounds-fill-end-2 c).In_ok-judged

pub fill-requires : goal.fill-requires
fill-requires c =
    (image-shaped _ (of (goal.at.fill-requires c).In_ok-judged).0 (of (goal.at.fill-requires c).In_ok-judged).1 (bytes (goal.at.fill-requires c).In_ok-judged) (there (goal.at.fill-requires c).In_ok-judged), omega (arith, commits-said _ (of (goal.at.fill-requires c).In_ok-judged).0 (of (goal.at.fill-requires c).In_ok-judged).1 c.judge.ensures.says (there (goal.at.fill-requires c).In_ok-judged)))

pub returns-in_err-judged : goal.returns-in_err-judged
returns-in_err-judged c =
    let a = refused-answer _ _ c.args.table.now _ (sym c.judge.ensures.answer ∙ ap answer_of c.in_err-judged.was) in
    let p = err_from_is_err_and c.from_residual.result c.from_residual.ensures.1 in
    record { answer = rw (p.1, p.2) a.said; image = c.judge.ensures.image; rows = a.left; holds = visibility _ (λ i. (c.type_inv.file i).fits) }

pub returns : goal.returns
returns c =
    let e = store_said _ (of (goal.at.returns c).In_ok-judged).0 (of (goal.at.returns c).In_ok-judged).1 c.judge.ensures.says (there (goal.at.returns c).In_ok-judged) in
    let a = whole-answer _ _ c.args.table.now _ (told (goal.at.returns c).In_ok-judged) (of (goal.at.returns c).In_ok-judged).0 (of (goal.at.returns c).In_ok-judged).1 e (omega arith) c.fill.ensures in record { answer = a.said; image = c.judge.ensures.image; rows = a.left; holds = visibility _ (bytes (goal.at.returns c).In_ok-judged) }
