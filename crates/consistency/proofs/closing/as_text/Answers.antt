-- `consistency::closing::as_text` meets its contract: what it writes is the text of what the close answers. Assumes nothing.
use mathlib.Core.Path.{refl}
use native.Mathlib.Omega.{arith}
use Rattle.endian.specs.Endian.{Bytes}
use Rattle.pieces.proofs.Judged.{judges-joined, refusal-keeps-image}
use Rattle.consistency.proofs.closing.as_text.Goals as goal

pub returns-then-text-lt-LONGEST : goal.returns-then-text-lt-LONGEST
returns-then-text-lt-LONGEST c =
    let bytes : Bytes c.args.kept.now = λ i. (c.type_inv.kept i).fits in (
      λ l. (refl, refl, refl, refl),
      λ l. absurd (omega arith),
      omega arith,
      judges-joined c.args.was c.args.kept.now c.args.image.now bytes,
      refusal-keeps-image c.args.was c.args.kept.now c.args.image.now,
    )

pub returns : goal.returns
returns c =
    let closed = c.finish-end.ensures in
    let written = c.write-length.ensures in
    let text = written.text (omega arith) in
    (λ l. absurd (omega arith), λ l. rw (← closed.1) (text.0, text.1, closed.2, closed.0), written.longest, closed.3, closed.4)
