-- No trace that is taken has an image longer than the limits make it, and an image that was judged stands within its buffer. Assumes nothing.
use Prim.Native.Nat.{ℕ, ◌≤◌}
use mathlib.Core.Path.{◌≡◌, sym, ap, ◌∙◌, subst}
use mathlib.Core.List.{List}
use lib.ListN.{length}
use Rattle.endian.specs.Endian.{Bytes}
use Rattle.store.specs.Image.{image}
use Rattle.trace.specs.Result.{taken}
use Rattle.trace.specs.Format.{Trace}
use Rattle.trace.proofs.Decoded.{decoded-well-formed}
use Rattle.trace.proofs.Result.{taken-injective, on_taken-taken}
use Rattle.answer.specs.Output.{Output}
use Rattle.answer.specs.Answer.{final_store, accept, Report, report, judged, answer, ImageFits}
use Rattle.answer.proofs.Output.{answered-made}
use Rattle.answer.proofs.Taken.{sound-final}
use Rattle.answer.proofs.Demand3.{accepted-trace, taken-run}
use Rattle.answer.proofs.Recorded.{image-says}
use Rattle.store.proofs.ImageSizes.{length_most}
use Rattle.judging.specs.Answers.{Judged, judged_of, told_answer}

pub image-fits : (bytes : List ℕ) → Bytes bytes → ImageFits bytes
image-fits bytes b t e =
    let read = accepted-trace bytes t e in
    let fits = (image-says bytes b t e).fits in
    length_most _ (sound-final t (taken-run t (decoded-well-formed bytes b t read.0) read.1)).store fits.few-commits fits.few-keys

-- where an answer is told, there was room for the image
pub image-within : (bytes : List ℕ) (room : ℕ) (j : Judged) → told_answer bytes room ≡ taken j → j.image_length ≤ room
unfolding told_answer answer judged report
image-within bytes room j e =
    let (r, said, is-judged) = on_taken-taken (answer bytes room) (λ (r : Report). taken (judged_of r)) e in
    let (o, made, told, fits) = answered-made 15 (judged bytes) room r said in
    let (t, read, is_made) = on_taken-taken (accept bytes) (λ (t : Trace). taken (record { told = report t; bytes = image (final_store t) })) made in
    let output = taken-injective is_made in
    let long : length o.bytes ≡ j.image_length =
    ap (λ (x : Output Report). length x.bytes) (sym output) ∙ ap (λ (x : Output Report). x.told.image_length) output ∙ ap (λ (x : Report). x.image_length) told
    ∙ ap (λ (x : Judged). x.image_length) (taken-injective is-judged) in
    subst (λ (n : ℕ). n ≤ room) long fits
