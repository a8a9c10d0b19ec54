-- `trace::contents::fill` meets its contract: each way of listing by what its calls ensure. Assumes nothing.
use mathlib.Core.Path.{◌∙◌}
use native.Mathlib.Omega.{arith}
use Rattle.sets.proofs.Laws.{has-lt}
use Rattle.sets.proofs.Counting.{size-how_many}
use Rattle.trace.proofs.Filling.{every-fits, every-put, only-fits, only-lists, all_fit, all-put, touched-fits, touched-room, touched-below, touched-lists, row_put, row_kept}
use Rattle.trace.proofs.contents.fill.Goals as goal

pub masks_into-requires : goal.masks_into-requires
masks_into-requires c = (every-fits _ _ c.in-Every.is c.requires.0, c.requires.2)

pub masks_into-requires-then-listed-below : goal.masks_into-requires-then-listed-below
masks_into-requires-then-listed-below c =
    (all_fit _ _ c.in-Only.is (c.if-listed-below.true ∙ c.below.ensures) c.requires.0, c.requires.2)

pub listed_into-requires : goal.listed_into-requires
listed_into-requires c =
    let (within, small) = only-fits _ _ c.in-Only.is c.requires.0 in
    (within, λ k t. let below = has-lt _ _ k small t in omega arith)

pub touched_keys-listed-requires : goal.touched_keys-listed-requires
touched_keys-listed-requires c = (_, c.requires.3, touched-fits _ _ c.in-Touched.is c.requires.0)

pub listed_into-requires-in-Touched : goal.listed_into-requires-in-Touched
listed_into-requires-in-Touched c =
    let is = c.in-Touched.is in
    let bytes = c.type_inv.s in
    let keys = c.touched_keys-listed in (
      omega (arith, touched-room _ _ _ is c.requires.0 (λ i. (bytes i).fits) keys.ensures 64 (omega arith), size-how_many 64 keys.result (omega (arith, keys.type_inv))),
      λ k t. let below = touched-below _ _ _ is c.requires.0 (λ i. (bytes i).fits) keys.ensures k t in omega arith,
    )

pub returns-in-Every : goal.returns-in-Every
returns-in-Every c = let put = c.masks_into.ensures in record { read = every-put _ _ _ _ c.in-Every.is put.read; kept = put.kept }

pub returns-then-listed-below : goal.returns-then-listed-below
returns-then-listed-below c =
    let put = c.masks_into-then-listed-below.ensures in record { read = all-put _ _ _ _ c.in-Only.is (c.if-listed-below.true ∙ c.below.ensures) put.read; kept = put.kept }

pub returns-else-listed-below : goal.returns-else-listed-below
returns-else-listed-below c =
    let is = c.in-Only.is in
    let row = c.row_into.ensures in
    let put = c.listed_into.ensures in
    let lists = only-lists _ _ is in
    let small = (only-fits _ _ is c.requires.0).1 in record { read = row_put _ _ _ _ _ _ _ _ lists put row.read; kept = row_kept _ _ _ _ _ _ _ _ lists put (λ k. has-lt _ _ k small) row.kept }

pub returns-in-Touched : goal.returns-in-Touched
returns-in-Touched c =
    let is = c.in-Touched.is in
    let bytes = c.type_inv.s in
    let keys = c.touched_keys-listed.ensures in
    let row = c.row_into-in-Touched.ensures in
    let put = c.listed_into-in-Touched.ensures in
    let lists = touched-lists _ _ _ is c.requires.0 (λ i. (bytes i).fits) keys in record { read = row_put _ _ _ _ _ _ _ _ lists put row.read; kept = row_kept _ _ _ _ _ _ _ _ lists put (touched-below _ _ _ is c.requires.0 (λ i. (bytes i).fits) keys) row.kept }
