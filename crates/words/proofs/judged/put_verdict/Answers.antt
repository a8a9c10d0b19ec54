-- `words::judged::put_verdict` meets its contract. Assumes nothing.
use mathlib.Core.Path.{sym, ap, ◌∙◌}
use Rattle.endian.specs.Endian.{put_at}
use Rattle.verdicts.specs.Told.{verdict_of}
use Rattle.words.specs.Layout.{verdict_words}
use Rattle.words.proofs.judged.put_verdict.Goals as goal

pub returns-in-Ok : goal.returns-in-Ok
returns-in-Ok c =
    let a = c.args in
    c.put_four.ensures ∙ ap (λ x. put_at a.out.now a.at (verdict_words (verdict_of x))) (sym c.in-Ok.is)

pub returns-in-Err : goal.returns-in-Err
returns-in-Err c =
    let a = c.args in
    c.put_four-in-Err.ensures ∙ ap (λ x. put_at a.out.now a.at (verdict_words (verdict_of x))) (sym c.in-Err.is)
