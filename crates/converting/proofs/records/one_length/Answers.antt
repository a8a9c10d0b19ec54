-- `converting::records::one_length` meets its contract. Assumes nothing.
use mathlib.Core.Path.{◌≡◌}
use native.Mathlib.Omega.{arith}
use lib.ListN.{length}
use Rattle.store.specs.Limits.{max_keys}
use Rattle.converting.proofs.Going.{meant, rows_on}
use Rattle.converting.proofs.records.one_length.Goals as goal

pub returns-clause-reckoned : goal.returns-clause-reckoned
returns-clause-reckoned c =
    let a = c.args in
    let put = c.fill in
    let long : length put.new.masks ≡ max_keys = omega arith in
    λ g rows. c.length_in-size.ensures.reckoned g (meant a.file.now a.n a.x c.requires.1 a.views.now put.new.masks c.client_of-base.ensures c.listing_of.ensures long put.ensures.read g rows)

pub returns-clause-on : goal.returns-clause-on
returns-clause-on c =
    let a = c.args in
    let put = c.fill in
    let long : length put.new.masks ≡ max_keys = omega arith in
    λ g rows. rows_on a.file.now a.n a.x c.requires.1 a.views.now put.new.masks c.client_of-base.ensures c.listing_of.ensures long put.ensures.read g rows c.requires.0 c.keep.ensures
