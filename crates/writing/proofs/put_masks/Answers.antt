-- `writing::put_masks` meets its contract. The loop's invariant: the masks passed stand from `at` on. Assumes nothing.
use Prim.Native.Nat.{◌+◌, ◌-◌, ◌*◌}
use mathlib.Core.Path.{ap, ◌∙◌}
use native.Mathlib.Omega.{arith}
use lib.ListN.{drop}
use Rattle.std.proofs.lemmas.List.{get_or-drop, get_or-take}
use Rattle.endian.specs.Endian.{le_bytes, pieces}
use Rattle.endian.proofs.Put.{put-none, put-piece}
use Rattle.trace.specs.Encode.{view_bytes}
use Rattle.store.proofs.Masks.{length-view_bytes}
use Rattle.writing.proofs.put_masks.Goals as goal

pub loop-k-init : goal.loop-k-init
unfolding view_bytes pieces
loop-k-init c = λ u row. put-none _ c.args.at

pub loop-k-preserved : goal.loop-k-preserved
unfolding view_bytes
loop-k-preserved c =
    let a = c.args in
    let k = c.loop-k.k in
    λ u row.
    put-piece a.buffer.now a.at k (8 * k) (λ j. le_bytes 8 (u j)) (c.loop-k.invariant u row) (length-view_bytes k u) (omega arith)
    c.put_u64.ensures (ap (le_bytes 8) (get_or-take (a.base + a.n - a.base) (drop a.base a.masks.now) k 0 (omega arith) ∙ get_or-drop a.base a.masks.now k 0 ∙ row k (omega arith)))
