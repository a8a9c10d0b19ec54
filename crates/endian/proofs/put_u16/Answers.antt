-- `endian::put_u16` meets its contract: two stores in a row put two bytes. Assumes nothing.
use Prim.Native.Nat.{◌/◌, ◌%◌}
use mathlib.Core.Path.{◌≡◌}
use mathlib.Core.List.{[], ◌∷◌}
use native.Mathlib.Omega.{arith}
use native.Mathlib.Nat.{mod-eq_of_lt}
use native.Mathlib.Numerals.{add-one}
use lib.ListN.{length-set}
use lib.Seq.{sets-eq}
use Rattle.endian.specs.Endian.{le_bytes}
use Rattle.endian.proofs.put_u16.Goals as goal

pub bounds-d-at-2 : goal.bounds-d-at-2
bounds-d-at-2 c = simp length-set (omega arith)

pub returns : goal.returns
unfolding le_bytes
returns c =
    let v = c.args.v in
    let high : v / 256 % 256 ≡ v / 256 = mod-eq_of_lt (omega arith) in
    rw (high, add-one) (sets-eq (v % 256 ∷ v / 256 ∷ []) c.args.d.now c.args.at c.requires)
