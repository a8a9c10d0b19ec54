-- `shifts::shift::whole_store` meets its contract. Assumes nothing.
use native.Mathlib.Omega.{arith}
use Rattle.shifts.proofs.WholeStore.{whole-not-refused, whole-kept}
use Rattle.shifts.proofs.shift.whole_store.Goals as goal

pub returns : goal.returns
returns c = record {
  answer = λ g u versions i h f. whole-not-refused g u _ _ versions _ _ _ _ h f c.requires.by_index i;
  kept = λ g u versions h f _. whole-kept g u _ _ versions _ _ _ _ h f c.requires.by_index (omega arith) (omega arith) _ c.keep.ensures c.all_writers.ensures;
}
