-- `converting::records::write_one` meets its contract. Assumes nothing.
use mathlib.Core.Path.{◌≡◌}
use native.Mathlib.Omega.{arith}
use lib.ListN.{length}
use Rattle.store.specs.Limits.{max_keys}
use Rattle.converting.proofs.Going.{meant, rows_on}
use Rattle.converting.proofs.records.write_one.Goals as goal

pub put_in-to-requires-clause-meant : goal.put_in-to-requires-clause-meant
put_in-to-requires-clause-meant c =
    let a = c.args in
    let put = c.fill in
    let long : length put.new.masks ≡ max_keys = omega arith in
    let (g, rows, room) = c.requires.view_rows in
    (g, meant a.file.now a.n a.x c.requires.n_le_max_keys.1 a.views.now put.new.masks c.client_of-base.ensures c.listing_of.ensures long put.ensures.read g rows, room)

pub returns : goal.returns
returns c =
    let a = c.args in
    let put = c.fill in
    let client = c.client_of-base.ensures in
    let listing = c.listing_of.ensures in
    let fresh = put.new.masks in
    let long : length fresh ≡ max_keys = omega arith in
    let wrote = c.put_in-to.ensures in record { next = λ g rows. wrote.next g (meant a.file.now a.n a.x c.requires.n_le_max_keys.1 a.views.now fresh client listing long put.ensures.read g rows); put = λ g rows. wrote.put g (meant a.file.now a.n a.x c.requires.n_le_max_keys.1 a.views.now fresh client listing long put.ensures.read g rows); on = λ g rows. rows_on a.file.now a.n a.x c.requires.n_le_max_keys.1 a.views.now fresh client listing long put.ensures.read g rows c.requires.n_le_max_keys.0 c.keep.ensures }
