-- `endian::put_u32` meets its contract: a number of 4 bytes is put as two of 2. Assumes nothing.
use Prim.Native.Nat.{◌+◌, ◌/◌, ◌^◌}
use mathlib.Core.Path.{◌∙◌, ap}
use native.Mathlib.Omega.{arith}
use Rattle.endian.specs.Endian.{le_bytes, put_at}
use Rattle.endian.proofs.Put.{put-number}
use Rattle.endian.proofs.put_u32.Goals as goal

pub returns : goal.returns
returns c =
    let a = c.args in
    c.put_u16-2.ensures
    ∙ ap (λ l. put_at l (a.at + 2) (le_bytes 2 (a.v / 256 ^ 2))) c.put_u16.ensures
    ∙ put-number a.d.now a.at 2 2 a.v (omega arith)
