-- `reading::linking::fill` meets its contract. Assumes nothing.
use Prim.Native.Nat.{◌+◌, ◌*◌, ◌^◌, ◌≤◌, ◌<◌}
use native.Mathlib.Omega.{arith}
use lib.ListN.{length}
use Rattle.reading.proofs.Shaped.{shaped-is, shaped-short}
use Rattle.reading.proofs.Keys.{start_is, body-long}
use Rattle.reading.proofs.Linked.{keep-links}
use Rattle.reading.proofs.linking.fill.Goals as goal
use Rattle.reading.proofs.linking.fill.Goals.{After-byte_at-count}

-- what is known of the image, where its numbers of keys and commits were read
long : (c : goal.After-byte_at-count) → 8 + (8 + 8 * c.byte_at-n.result) * c.byte_at-count.result ≤ length c.args.image.now
long c = body-long _ _ _ c.byte_at-n.ensures.0 c.byte_at-count.ensures.0 ((shaped-is _).0 c.requires.0).body

short : (c : goal.After-byte_at-count) → length c.args.image.now < 2 ^ 32
short c = shaped-short _ (λ j. (c.type_inv.image j).fits) ((shaped-is _).0 c.requires.0)

pub byte_at-n-requires : goal.byte_at-n-requires
byte_at-n-requires c = omega (arith, ((shaped-is _).0 c.requires.0).head.long)

pub byte_at-count-requires : goal.byte_at-count-requires
byte_at-count-requires c = omega (arith, ((shaped-is _).0 c.requires.0).head.long)

pub session_links-requires : goal.session_links-requires
session_links-requires c = (omega arith, omega (arith, c.byte_at-count.ensures.0, ((shaped-is _).0 c.requires.0).head.few-commits), long (goal.at.session_links-requires c).After-byte_at-count, short (goal.at.session_links-requires c).After-byte_at-count, c.clear.ensures.0)

pub keys_links-requires : goal.keys_links-requires
keys_links-requires c =
    let h = (shaped-is _).0 c.requires.0 in
    let k = c.byte_at-n.ensures.0 in record { start_value = (start_is _ _ _ k c.byte_at-count.ensures.0, short (goal.at.keys_links-requires c).After-byte_at-count, c.session_links.ensures.room); by_index = (λ j l. h.body.keys j (omega (arith, k)), h.head.few-commits) }

pub returns : goal.returns
returns c = (
  c.keys_links.ensures.room,
  keep-links _ ((shaped-is _).0 c.requires.0) _ _ c.byte_at-n.ensures.0 c.byte_at-count.ensures.0 c.clear.ensures.1 c.session_links.ensures c.keys_links.ensures,
)
