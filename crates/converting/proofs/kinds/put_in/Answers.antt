-- `converting::kinds::put_in` meets its contract. Assumes nothing.
use mathlib.Core.Path.{sym, ap, ◌∙◌}
use Rattle.endian.specs.Endian.{put_at}
use Rattle.converting.specs.Answers.{edition_of}
use Rattle.converting.proofs.EitherEdition.{bytes_of}
use Rattle.converting.proofs.kinds.put_in.Goals as goal

pub returns-in-Long-clause-put : goal.returns-in-Long-clause-put
returns-in-Long-clause-put c =
    let a = c.args in
    λ g m. c.put_long.ensures.put g _ _ m ∙ ap (λ e. put_at a.buffer.now a.at (bytes_of (edition_of e) a.file.now a.n g a.x)) (sym c.in-Long.is)
