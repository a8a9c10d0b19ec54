-- `endian::put_u64` meets its contract: a number of 8 bytes is put as two of 4. Assumes nothing.
use Prim.Native.Nat.{◌+◌, ◌/◌, ◌^◌}
use mathlib.Core.Path.{◌∙◌, ap}
use native.Mathlib.Omega.{arith}
use Rattle.endian.specs.Endian.{le_bytes, put_at}
use Rattle.endian.proofs.Put.{put-number}
use Rattle.endian.proofs.put_u64.Goals as goal

pub returns : goal.returns
returns c =
    let a = c.args in
    c.put_u32-2.ensures
    ∙ ap (λ l. put_at l (a.at + 4) (le_bytes 4 (a.v / 256 ^ 4))) c.put_u32.ensures
    ∙ put-number a.d.now a.at 4 4 a.v (omega arith)
