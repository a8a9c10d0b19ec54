-- `views::apart::take_key` meets its contract. The loop's invariant: the commits found are taken, and what is met is what is left of the key. Assumes nothing.
use Rattle.std.proofs.Common.{ℕ, ◌^◌, ◌<◌, refl, ◌∙◌, arith}
use lib.Bits.{bit_and, and_le_r}
use Rattle.sets.proofs.Laws.{has-insert}
use Rattle.views.proofs.Parted.{key-parted, parting-whole, parting-half, met-more}
use Rattle.views.proofs.apart.take_key.Goals as goal
use Rattle.views.proofs.apart.take_key.Goals.{then-lacks-ne0, else-lacks-ne0}
use Rattle.views.proofs.apart.take_key.Goals.{After-rest}

less : (a b m : ℕ) → b < m → bit_and a b < m
less a b m l = omega (arith, and_le_r a b)

pub loop-met-preserved : goal.loop-met-preserved
loop-met-preserved c =
    let (word, p) = c.loop-met.invariant in
    let l : c.args.k.0 < c.args.n = omega arith in
    let row = c.take_row-lacks.ensures in
    let low = c.lowest-v.ensures.0 in
    let some = c.loop-met-test.true in
    let by = c.writer_of-t.ensures in (
      less _ c.rest.result (2 ^ 64) (omega (arith, c.rest.ensures.1)),
      λ s d h q.
          let (g, grows, is) = p s d h q in (
            elim c.if-lacks-ne0.branch [
              | then-lacks-ne0 w ↦ parting-half h g _ l is word some low by.0 by.1 row.0 row.1 (omega arith) w.if-lacks-ne0.true c.insert-all.ensures (w.half-is ∙ w.insert-half.ensures)
              | else-lacks-ne0 w ↦ parting-whole h g _ l is word some low by.0 by.1 row.0 row.1 w.if-lacks-ne0.false c.insert-all.ensures w.half-is
            ],
            λ t x. rw c.insert-all.ensures (has-insert _ _ t (grows t x)),
            met-more h g _ l is word some low by.0 by.1 row.0 c.rest.ensures.0 refl,
          ),
    )

pub returns : goal.returns
returns c =
    let (word, p) = c.loop-met.invariant in
    let l : c.args.k.0 < c.args.n = omega arith in
    (omega arith, λ s d h q. let (g, grows, is) = p s d h q in (g, grows, key-parted h g _ l is c.loop-met-test.false))
