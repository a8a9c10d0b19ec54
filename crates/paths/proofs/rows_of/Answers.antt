-- `paths::rows_of` meets its contract: the rows of the run, and those of the others. Assumes nothing.
use mathlib.Core.Path.{ap, ◌∙◌}
use Rattle.sets.specs.Set.{without}
use Rattle.store.specs.Limits.{numbers}
use Rattle.paths.proofs.Swept.{run-and-others}
use Rattle.paths.proofs.rows_of.Goals as goal

pub returns : goal.returns
returns c =
    let a = c.args in
    let n = c.run_length-n in
    let run = c.sweep-run in
    let others = c.gather_two-others in
    let e = c.without.ensures ∙ ap (without a.set) c.below.ensures in (
      run-and-others a.links.now 0 n.result a.set n.ensures.1 e _ _ run.ensures.0 others.ensures.0 c.union-prefix.ensures,
      run-and-others a.links.now numbers n.result a.set n.ensures.1 e _ _ run.ensures.1 others.ensures.1 c.union-snapshot.ensures,
    )
