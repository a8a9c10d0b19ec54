-- `replaying::view::grow` meets its contract. The loop's invariant: the keys passed have their mask after, the others still that before. Assumes nothing.
use Prim.Native.Nat.{ℕ, ◌≤◌, ◌<◌}
use mathlib.Core.Path.{◌≡◌}
use lib.ListN.{get_or}
use Rattle.replaying.specs.Full.{grown_mask}
use Rattle.replaying.proofs.view.grow.Given as goal

abbrev pub invariant-loop-k : goal.invariant-loop-k
invariant-loop-k l = record {
  passed : (j : ℕ) → j < l.k → get_or l.mask-items j 0 ≡ grown_mask l.ranks j (get_or l.fn.full j 0);
  others : (j : ℕ) → l.k ≤ j → j < l.n → get_or l.mask-items j 0 ≡ get_or l.fn.full j 0;
}
