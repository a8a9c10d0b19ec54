-- `trying::judge` meets its contract. Assumes nothing.
use Rattle.trying.proofs.Handed.{handed}
use Rattle.trying.proofs.judge.Goals as goal

pub returns : goal.returns
returns c =
    let a = c.args in
    λ s u commit values fs made view number fit small arrays in-commits operations masks holds wants asked kept.
    let judging = handed s u commit made a.n a.versions.now a.keys.now a.commits.now a.views.now a.base arrays in-commits fit small a.me.0 number c.requires.1 a.fresh.now masks view a.tried.seen holds a.tried.wanted wants a.ranks values operations
    c.lost-lost.result (λ e. c.lost-lost.ensures s u commit.view_after e made.view arrays.in-masks masks) c.up_to-session.result c.up_to-session.ensures c.held-after.result c.held-after.ensures c.lacking-absent.result c.lacking-absent.ensures in
    c.note.ensures s u commit values fs judging (c.failing-failing.ensures s u commit judging.at-hand) asked kept
