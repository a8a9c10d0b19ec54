-- `commits::record::view_after` meets its contract. Assumes nothing.
use mathlib.Core.Path.{◌≡◌}
use native.Mathlib.Omega.{arith}
use lib.ListN.{length}
use Rattle.store.specs.Limits.{max_keys}
use Rattle.commits.specs.Records.{commit_in}
use Rattle.shifts.proofs.Refused.{masks-filled}
use Rattle.commits.proofs.Begun.{row_kept}
use Rattle.commits.proofs.record.view_after.Goals as goal

pub returns : goal.returns
returns c =
    let taken = c.commit_into in
    let a = c.args in
    let fresh = taken.new.masks in
    let wide : length fresh ≡ max_keys = omega arith in
    λ g clients versions keys seen sessions commits links r.
    let k = commit_in g a.file.now a.at a.n in
    masks-filled _ _ _ _ fresh wide (row_kept g k clients a.n versions keys a.views.now seen sessions commits links r) taken.ensures
