-- `consistency::report_file` meets its contract: what it writes is the text of what `judge` answers. Assumes nothing.
use mathlib.Core.Path.{refl}
use native.Mathlib.Omega.{arith}
use Rattle.endian.specs.Endian.{Bytes}
use Rattle.answer.proofs.Demand3.{demand3}
use Rattle.answer.proofs.Recorded.{image-says}
use Rattle.consistency.proofs.report_file.Goals as goal
use Rattle.consistency.proofs.report_file.Goals.{Then-text-lt-LONGEST}

-- the bytes of the file are bytes
bytes : (c : goal.Then-text-lt-LONGEST) → Bytes c.args.file.now
bytes c i = (c.type_inv.file i).fits

pub returns-then-text-lt-LONGEST : goal.returns-then-text-lt-LONGEST
returns-then-text-lt-LONGEST c = record { room = λ l. (refl, refl, refl); report = λ l. absurd (omega arith); longest = omega arith; demand3 = demand3 _ (bytes c); says = image-says _ (bytes c) }

pub returns : goal.returns
returns c =
    let judged = c.judge.ensures in
    let written = c.write.ensures in
    let text = written.text (omega arith) in
    record {
      room = λ l. absurd (omega arith);
      report = λ l. rw (← judged.answer) (text.0, text.1, judged.image);
      longest = written.longest;
      demand3 = judged.demand3;
      says = judged.says;
    }
