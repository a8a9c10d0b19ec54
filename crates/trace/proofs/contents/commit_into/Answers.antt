-- `trace::contents::commit_into` meets its contract by what its calls ensure. Assumes nothing.
use native.Mathlib.Omega.{arith}
use Rattle.store.specs.Limits.{max_keys}
use Rattle.trace.proofs.Filling.{touched-room, touched-below, touched-lists, lists-by, row_put}
use Rattle.trace.proofs.contents.commit_into.Goals as goal

pub touched_into-requires : goal.touched_into-requires
touched_into-requires c =
    let is = c.in-Touched.is in
    let bytes = c.type_inv.s in
    let same = lists-by _ c.args.ranks is c.requires.listing_fits.1 in (
      touched-room _ _ _ is c.requires.listing_fits.0 (λ i. (bytes i).fits) same max_keys c.requires.listing_fits.2,
      λ k t. let below = touched-below _ _ _ is c.requires.listing_fits.0 (λ i. (bytes i).fits) same k t in omega arith,
    )

pub returns-in-Touched : goal.returns-in-Touched
returns-in-Touched c =
    let is = c.in-Touched.is in
    let bytes = c.type_inv.s in
    let same = lists-by _ c.args.ranks is c.requires.listing_fits.1 in
    let lists = touched-lists _ _ _ is c.requires.listing_fits.0 (λ i. (bytes i).fits) same in
    row_put _ _ _ _ _ _ _ _ lists c.touched_into.ensures c.row_into.ensures.read
