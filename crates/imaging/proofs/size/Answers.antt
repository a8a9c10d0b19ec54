-- `imaging::size` meets its contract. The loop's invariant: the sum is the size of the first 8 bytes, the commits and the keys passed. Assumes nothing.
use Prim.Native.Nat.{◌<◌}
use mathlib.Core.Path.{◌≡◌, ap}
use native.Mathlib.Omega.{arith}
use native.Mathlib.Numerals.{add-one}
use lib.Seq.{length-take-le}
use Rattle.std.proofs.lemmas.List.{get_or-take}
use Rattle.sets.specs.Set.{size}
use Rattle.imaging.specs.Parts.{keys_size}
use Rattle.imaging.proofs.Sizes.{keys_size-suc, length_whole}
use Rattle.imaging.proofs.size.Goals as goal

pub loop-full-init : goal.loop-full-init
unfolding keys_size
loop-full-init c = (omega arith, omega arith)

pub loop-full-preserved : goal.loop-full-preserved
loop-full-preserved c =
    let a = c.args in
    let keys = a.keys.now in
    let k = c.loop-full.full-index in
    let here : k < a.n = omega (arith, length-take-le a.n keys (omega arith)) in
    (omega (arith, ap (keys_size keys) (add-one k), keys_size-suc keys k, c.size.ensures.0, ap size (get_or-take a.n keys k 0 here)), omega arith)

pub returns-clause-value_2 : goal.returns-clause-value_2
returns-clause-value_2 c =
    let a = c.args in
    let keys = a.keys.now in
    let all : c.loop-full.full-index ≡ a.n = omega (arith, length-take-le a.n keys (omega arith)) in
    λ s kept k m. omega (arith, ap (keys_size keys) all, length_whole s keys kept a.n a.count k m)
