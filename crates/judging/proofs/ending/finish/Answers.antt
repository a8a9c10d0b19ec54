-- `judging::ending::finish` meets its contract: the image's size is what `imaging::size` says, so the buffer is too short exactly where code 15 is due. Assumes nothing.
use Prim.Native.Nat.{◌≤◌, ◌<◌}
use mathlib.Core.Path.{◌≡◌, ap, ◌∙◌, subst}
use lib.ListN.{length}
use Rattle.store.specs.Image.{image}
use Rattle.trace.specs.Result.{refused}
use Rattle.answer.specs.Answer.{final_store}
use Rattle.judging.proofs.Answered.{short-answer, judged-answer, told-report}
use borrow.Author.Rules.{rules}
use Rattle.judging.proofs.ending.finish.Goals as goal

pub returns-then-buffer-whole : goal.returns-then-buffer-whole
returns-then-buffer-whole c =
    let buffer = c.args.buffer.now in
    λ bytes t h.
    let e : c.size-whole.result ≡ length (image (final_store t)) = c.size-whole.ensures.value_2 (final_store t) h.in-keys h.all-keys h.all-commits in
    let a = short-answer bytes buffer t h.accepted (subst (λ x. length buffer < x) e (search rules)) in
    (ap refused c.of_record.ensures ∙ a.said, a.drawn)

pub returns : goal.returns
returns c =
    let buffer = c.args.buffer.now in
    λ bytes t h.
    let e : c.size-whole.result ≡ length (image (final_store t)) = c.size-whole.ensures.value_2 (final_store t) h.in-keys h.all-keys h.all-commits in
    let a = judged-answer bytes buffer t h.accepted (subst (λ x. x ≤ length buffer) e (search rules)) in (
      told-report t h.told h.all-records h.all-commits e ∙ a.said,
      c.write.ensures (final_store t) h.in-versions h.in-keys h.in-commits h.in-views h.sound h.clients-fit h.all-keys h.all-commits ∙ a.drawn,
    )
