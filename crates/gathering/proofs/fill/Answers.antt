-- `gathering::fill` meets its contract. The loop's invariant: the rows of the commits that were passed stand in the table. Assumes nothing.
use Prim.Native.Nat.{suc, ◌+◌, ◌*◌, ◌^◌, ◌≤◌, ◌<◌}
use mathlib.Core.Path.{refl}
use native.Mathlib.Omega.{arith}
use lib.ListN.{length, length-take}
use Rattle.reading.proofs.Keys.{start_is, body-long}
use Rattle.reading.proofs.Shaped.{shaped-is, shaped-short}
use Rattle.gathering.proofs.Rows.{masks-first, masks-next, masks-within, masks-place, keys-read, row-found, filled_none, filled_more, filled-all}
use Rattle.gathering.proofs.fill.Goals as goal
use Rattle.gathering.proofs.fill.Goals.{After-byte_at-count}

-- what is known of the image, where its numbers of keys and commits were read
long : (c : goal.After-byte_at-count) → 8 + (8 + 8 * c.byte_at-n.result) * c.byte_at-count.result ≤ length c.args.image.now
long c = body-long _ _ _ c.byte_at-n.ensures.0 c.byte_at-count.ensures.0 ((shaped-is _).0 c.requires.0).body

short : (c : goal.After-byte_at-count) → length c.args.image.now < 2 ^ 32
short c = shaped-short _ (λ j. (c.type_inv.image j).fits) ((shaped-is _).0 c.requires.0)

pub byte_at-n-requires : goal.byte_at-n-requires
byte_at-n-requires c = omega (arith, ((shaped-is _).0 c.requires.0).head.long)

pub byte_at-count-requires : goal.byte_at-count-requires
byte_at-count-requires c = omega (arith, ((shaped-is _).0 c.requires.0).head.long)

pub loop-row-init : goal.loop-row-init
loop-row-init c = (masks-first _, filled_none _ _)

pub writers_seen-requires : goal.writers_seen-requires
writers_seen-requires c =
    let h = (shaped-is _).0 c.requires.0 in
    let k = c.byte_at-n.ensures.0 in
    let at = (goal.at.writers_seen-requires c).After-byte_at-count in
    let few = length-take c.byte_at-count.result c.args.table.now in
    record {
      start_value = (start_is _ _ _ k c.byte_at-count.ensures.0, masks-within _ _ _ _ (omega arith) c.loop-row.invariant.0 (long at), short at);
      by_index = λ j l. keys-read _ h j (omega (arith, k));
    }

pub loop-row-preserved : goal.loop-row-preserved
loop-row-preserved c =
    let l = c.loop-row in
    let k = c.byte_at-n.ensures.0 in
    let n = c.byte_at-count.ensures.0 in
    let few = length-take c.byte_at-count.result c.args.table.now in (
      masks-next _ _ l.invariant.0,
      filled_more _ _ l.row-index _ (omega arith) l.invariant.1 refl
          (row-found _ ((shaped-is _).0 c.requires.0) (suc l.row-index) (omega arith, omega arith) (masks-place _ _ _ k l.invariant.0) k c.writers_seen.ensures c.without.ensures),
    )

pub returns : goal.returns
returns c =
    let n = c.byte_at-count.ensures.0 in
    let few = length-take c.byte_at-count.result c.args.table.now in
    filled-all _ c.args.table.now _ _ (omega arith) n (omega arith) c.loop-row.invariant.1
