-- `shifts::shift::shift_to` meets its contract. Assumes nothing.
use mathlib.Core.Path.{◌≡◌}
use native.Mathlib.Omega.{arith}
use lib.ListN.{length}
use Rattle.store.specs.Limits.{max_keys}
use Rattle.shifts.proofs.Refused.{row-given, masks-filled}
use Rattle.shifts.proofs.shift.shift_to.Goals as goal

pub returns : goal.returns
returns c =
    let put = c.fill in
    let done = c.shift_on.ensures in
    let fresh = put.new.masks in
    let long : length fresh ≡ max_keys = omega arith in record { answer = λ g h. done.answer g _ h (masks-filled _ _ _ _ fresh long (row-given g _ _ _ _ _ _ _ c.requires.le_n.2 h) put.ensures.read); kept = λ g h. done.kept g _ h (masks-filled _ _ _ _ fresh long (row-given g _ _ _ _ _ _ _ c.requires.le_n.2 h) put.ensures.read) }
