-- A mask with the next version in it, or as it is, as the code reckons it. Assumes nothing.
use Prim.Native.Nat.{ℕ, zero, suc, ◌+◌, ◌*◌, ◌<◌}
use mathlib.Core.Path.{◌≡◌}
use native.Mathlib.Omega.{arith}
use lib.Dec.{eqb}
use Rattle.search.specs.Choose.{choose}

-- a mask, and where w is 1 as much again and one
pub next-mask : (w m : ℕ) → w < 2 → m + w * (m + 1) ≡ choose (eqb w 1) (2 * m + 1) m
unfolding choose
next-mask zero m l = omega arith
next-mask (suc zero) m l = omega arith
next-mask (suc (suc w)) m l = absurd (omega arith)
