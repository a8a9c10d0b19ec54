-- `converting::ending::finish` meets its contract: 22 where the file would be too long, then 17 where its length is more than the buffer's. Assumes nothing.
use Prim.Native.Nat.{◌≤◌, ◌<◌}
use mathlib.Core.Path.{◌≡◌, ap, ◌∙◌, subst}
use native.Mathlib.Omega.{arith}
use lib.ListN.{length}
use Rattle.store.specs.Limits.{max_bytes}
use Rattle.trace.specs.Result.{refused, taken}
use Rattle.trace.specs.Format.{decode}
use Rattle.trace.specs.Edition.{Edition, encode_in}
use Rattle.answer.specs.Converted.{convert_answer}
use Rattle.answer.proofs.Demand3.{accepted-trace}
use Rattle.converting.specs.Answers.{edition_of}
use Rattle.converting.proofs.Answered.{long-output, short-buffer, written-file, file-least, put-file}
use borrow.Author.Rules.{rules}
use Rattle.converting.proofs.ending.finish.Goals as goal
use Rattle.converting.proofs.ending.finish.Goals.{After-size-whole}

abbrev edition : (c : goal.After-size-whole) → Edition
edition c = edition_of c.args.edition

-- the file is read as the trace
read : (c : goal.After-size-whole) → decode c.args.file.now ≡ taken c.requires.trace
read c = (accepted-trace _ _ c.requires.accepted).0

size_is : (c : goal.After-size-whole) → c.size-whole.result ≡ length (encode_in (edition c) c.requires.trace)
size_is c = c.size-whole.ensures _ (read c)

pub returns-then-whole-gt-BYTES : goal.returns-then-whole-gt-BYTES
unfolding convert_answer
returns-then-whole-gt-BYTES c =
    let a = long-output (edition (goal.at.returns-then-whole-gt-BYTES c).After-size-whole) c.args.file.now c.args.buffer.now c.requires.trace c.requires.accepted (subst (λ x. max_bytes < x) (size_is (goal.at.returns-then-whole-gt-BYTES c).After-size-whole) (search rules)) in
    (ap refused c.of_record.ensures ∙ a.said, a.left)

pub returns-then-buffer-whole : goal.returns-then-buffer-whole
unfolding convert_answer
returns-then-buffer-whole c =
    let buffer = c.args.buffer.now in
    let few : length (encode_in (edition (goal.at.returns-then-buffer-whole c).After-size-whole) c.requires.trace) ≤ max_bytes = subst (λ x. x ≤ max_bytes) (size_is (goal.at.returns-then-buffer-whole c).After-size-whole) (search rules) in
    let a = short-buffer (edition (goal.at.returns-then-buffer-whole c).After-size-whole) c.args.file.now buffer c.requires.trace c.requires.accepted few (subst (λ x. length buffer < x) (size_is (goal.at.returns-then-buffer-whole c).After-size-whole) (search rules)) in
    (ap refused c.of_record-then-buffer-whole.ensures ∙ a.said, a.left)

pub put_head-requires : goal.put_head-requires
put_head-requires c =
    let w = c.requires.in-form in
    let size = size_is (goal.at.put_head-requires c).After-size-whole in
    let least = file-least (edition (goal.at.put_head-requires c).After-size-whole) c.requires.trace in
    (omega arith, omega arith, w.few-keys, w.few-clients, w.few-records)

pub returns : goal.returns
unfolding convert_answer
returns c =
    let t = c.requires.trace in
    let buffer = c.args.buffer.now in
    let size = size_is (goal.at.returns c).After-size-whole in
    let few : length (encode_in (edition (goal.at.returns c).After-size-whole) t) ≤ max_bytes = subst (λ x. x ≤ max_bytes) size (search rules) in
    let room : length (encode_in (edition (goal.at.returns c).After-size-whole) t) ≤ length buffer = subst (λ x. x ≤ length buffer) size (search rules) in
    let a = written-file (edition (goal.at.returns c).After-size-whole) c.args.file.now buffer t c.requires.accepted few room in (
      ap taken size ∙ a.said,
      put-file (edition (goal.at.returns c).After-size-whole) c.requires.in-form t (read (goal.at.returns c).After-size-whole) size c.requires.all-records buffer room c.put_head.ensures (c.write.ensures t (read (goal.at.returns c).After-size-whole)) ∙ a.left,
    )
