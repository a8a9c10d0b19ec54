-- `trying::links::tries` meets its contract. The loop's invariant: of the commits tried, those with a link are in the set. Assumes nothing.
use Prim.Native.Nat.{◌<◌}
use Rattle.state.specs.Keeps.{IsSet}
use Rattle.trying.specs.Tries.{LinksTo}
use Rattle.trying.specs.Recorded.{recorded}
use Rattle.trying.proofs.links.tries.Given as goal

abbrev pub invariant-loop-a : goal.invariant-loop-a
invariant-loop-a l = IsSet l.all (λ t. (t < l.a) × LinksTo (recorded l.versions l.keys l.commits l.n) l.ends t)
