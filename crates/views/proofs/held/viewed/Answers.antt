-- `views::held::viewed` meets its contract. Assumes nothing.
use Rattle.std.proofs.Common.{sym, ap, ◌∙◌}
use Rattle.state.specs.Answers.{place_of}
use Rattle.views.proofs.Rows.{masks-row}
use Rattle.views.proofs.Downward.{apart-not-half}
use Rattle.views.proofs.Differs.{with-fresh, of-gain, of-loss, half-same, none-half, holds-is}
use Rattle.views.proofs.held.viewed.Goals as goal

pub returns-then-held-p-eq0 : goal.returns-then-held-p-eq0
returns-then-held-p-eq0 c = λ s old u m good.
    let x = c.split-p.ensures s old u _ _ _ m good (c.prefixes.ensures c.if-prefixes.true) in
    (apart-not-half s old u _ _ _ _ _ _ _ m good _ _ x.0 x.1 c.if-held-p-eq0.true, x.0)

pub returns-then-half-eq0 : goal.returns-then-half-eq0
returns-then-half-eq0 c =
    λ s old u m good.
    let g = c.beyond-gained.ensures s u old (of-gain s old u _ _ _ _ _ _ _ m good) (masks-row m.in-fresh) m.arrays.in-masks in
    let l = c.beyond-lost.ensures s old u (of-loss s old u _ _ _ _ _ _ _ m good) m.arrays.in-masks (masks-row m.in-fresh) in
    let half = c.union-half.ensures in
    let whole = none-half s old u _ _ _ _ _ _ _ m good g l half c.if-half-eq0.true in
    (whole, holds-is s old u _ _ _ _ _ _ _ m good g l half whole c.union.ensures c.without-holds.ensures)

pub returns-in-Some : goal.returns-in-Some
returns-in-Some c =
    λ s old u m good.
    let g = c.beyond-gained.ensures s u old (of-gain s old u _ _ _ _ _ _ _ m good) (masks-row m.in-fresh) m.arrays.in-masks in
    let l = c.beyond-lost.ensures s old u (of-loss s old u _ _ _ _ _ _ _ m good) m.arrays.in-masks (masks-row m.in-fresh) in
    let half = c.union-half.ensures in
    half-same s old u _ _ _ _ _ _ _ m good g l half ∙ sym (c.least_by_writer.ensures s u (with-fresh s old u _ _ _ _ _ _ _ m good)) ∙ ap place_of c.in-Some.is

pub returns-in-None : goal.returns-in-None
returns-in-None c =
    λ s old u m good.
    let g = c.beyond-gained.ensures s u old (of-gain s old u _ _ _ _ _ _ _ m good) (masks-row m.in-fresh) m.arrays.in-masks in
    let l = c.beyond-lost.ensures s old u (of-loss s old u _ _ _ _ _ _ _ m good) m.arrays.in-masks (masks-row m.in-fresh) in
    let half = c.union-half.ensures in
    let whole = half-same s old u _ _ _ _ _ _ _ m good g l half ∙ sym (c.least_by_writer.ensures s u (with-fresh s old u _ _ _ _ _ _ _ m good)) ∙ ap place_of c.in-None.is in
    (whole, holds-is s old u _ _ _ _ _ _ _ m good g l half whole c.union.ensures c.without-holds.ensures)
