-- `trying::gather::chosen_at` meets its contract. Assumes nothing.
use Rattle.views.proofs.Tests.{taken}
use Rattle.trying.proofs.Gathered.{chosen-version}
use Rattle.trying.proofs.gather.chosen_at.Goals as goal

pub returns : goal.returns
returns c =
    let a = c.args in
    chosen-version a.versions.now a.masks.now a.base a.ranks a.readers a.k.0 a.i.0 (taken c.if-not-has.false c.has.ensures) (taken c.if-not-has-2.false c.has-2.ensures) c.writer_of.ensures.0 c.insert.ensures
