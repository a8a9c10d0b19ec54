-- `trying::links::starts_by_write` meets its contract. Assumes nothing.
use mathlib.Core.Logic.{inl, inr, ⊎_elim}
use mathlib.Core.Path.{sym, ◌∙◌}
use Rattle.views.proofs.Words.{meets-yes, meets-no, meets-is}
use Rattle.trying.specs.Recorded.{readers_at}
use Rattle.trying.proofs.links.starts_by_write.Goals as goal

pub returns-then-versions-at-ne0 : goal.returns-then-versions-at-ne0
returns-then-versions-at-ne0 c =
    let a = c.args in
    (λ _. (sym c.writer_of.ensures.0 ∙ c.if-writer_of-a.false, inl ((meets-is (readers_at a.versions.now a.k.0 a.i.0) a.ends.reader (c.type_inv.versions _).fits).0 (meets-yes _ _ c.if-versions-at-ne0.true))), λ _. tt)

pub returns : goal.returns
returns c =
    let a = c.args in (
      λ t. (sym c.writer_of.ensures.0 ∙ c.if-writer_of-a.false, inr (c.later_by.ensures.0 t)),
      λ x. ⊎_elim (λ y. absurd (meets-no _ _ c.if-versions-at-ne0.false ((meets-is (readers_at a.versions.now a.k.0 a.i.0) a.ends.reader (c.type_inv.versions _).fits).1 y))) c.later_by.ensures.1 x.1,
    )
