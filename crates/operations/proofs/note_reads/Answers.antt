-- `operations::note_reads` meets its contract. The keys passed are not read wrongly and have their reads noted, the others are as before, and the sets are those of the keys
-- passed. Assumes nothing.
use Rattle.std.proofs.Common.{◌+◌, ◌/◌, ap, ◌∙◌, arith}
use Rattle.store.specs.Update.{Visible}
use Rattle.state.proofs.Accesses.{next-key, left-rest, left-none}
use Rattle.operations.specs.PerKey.{ReadAt, LaterAt}
use Rattle.operations.proofs.Reading.{wrong-skip, wrong-one, wrong-means, wrong-found, wrong-none}
use Rattle.operations.proofs.PerKey.{source-read, later-read, reads-turn, all-sources, all-later}
use Rattle.operations.proofs.Noted.{read-noted, seen-left, reads-noted}
use Rattle.operations.proofs.note_reads.Goals as goal

pub returns-then-values-k : goal.returns-then-values-k
returns-then-values-k c =
    let (k, small, h, room, p) = c.loop-twice.invariant in
    let given = c.in-Some.ensures.steps in
    let (_, l, r, none) = next-key h given in
    λ s u d g.
    let sees = c.newest_visible-sees.ensures.seen ∙ seen-left g _ h given _ (p s u d g).1 in
    wrong-found g _ l sees (wrong-skip g k _ (omega (arith, l)) none (p s u d g).0) ((wrong-means g _ l sees r).1 c.if-values-k.true)

pub loop-twice-preserved : goal.loop-twice-preserved
loop-twice-preserved c =
    let (k, small, h, room, p) = c.loop-twice.invariant in
    let given = c.in-Some.ensures.steps in
    let (_, l, r, none) = next-key h given in (
      c.in-Some.twice / 2 + 1,
      omega (arith, l),
      left-rest h given,
      omega arith,
      λ s u d g.
          let (right, passed, sets) = p s u d g in
          let sees = c.newest_visible-sees.ensures.seen ∙ seen-left g _ h given _ passed in (
            wrong-one g _ (wrong-skip g k _ (omega (arith, l)) none right) (λ w. (wrong-means g _ l sees r).0 w c.if-values-k.false),
            read-noted g _ h c.requires.5 given _ (ap (λ (v : Visible). v.version) sees) c.note_read.ensures passed,
            λ kept o.
                let w = ap (λ (v : Visible). v.writer) sees in
                let x = sets kept o in (
                  reads-turn g h (ReadAt s u d) (λ q t x. x.0) _ x.0 given _ c.union-from.ensures (source-read g _ l r w c.single.ensures),
                  reads-turn g h (LaterAt s u d) (λ q t x. x.0) _ x.1 given _ c.union-over.ensures (later-read g _ l r w o kept c.up_to.ensures c.without-later.ensures),
                ),
          ),
    )

pub returns : goal.returns
returns c =
    let (k, small, h, room, p) = c.loop-twice.invariant in
    let none = c.in-None.ensures.steps.0 in
    λ s u d g.
    let (right, passed, sets) = p s u d g in (
      wrong-none g (wrong-skip g k _ (omega arith) (λ j a l. left-none h none j a l) right),
      reads-noted g _ h _ small none (omega arith) passed,
      λ kept o. let x = sets kept o in (all-sources g h small none _ x.0, all-later g h small none _ x.1),
    )
