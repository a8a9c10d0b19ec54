-- `pieces::finish` meets its contract. Assumes nothing.
use Rattle.endian.specs.Endian.{Bytes}
use Rattle.pieces.proofs.Judged.{judges-joined, refusal-keeps-image}
use Rattle.pieces.proofs.finish.Goals as goal

pub returns : goal.returns
returns c =
    let bytes : Bytes c.args.kept.now = λ i. (c.type_inv.kept i).fits in
    let told = c.answer-answer.ensures in (
      c.ended-session.ensures,
      told.result_value,
      told.image_after,
      judges-joined c.args.was c.args.kept.now c.args.image.now bytes,
      refusal-keeps-image c.args.was c.args.kept.now c.args.image.now,
    )
