-- `reading::linking::key_links` meets its contract. The loop's invariant: the versions that were passed have their links, and who wrote or read them is
-- kept. Assumes nothing.
use Prim.Native.Nat.{ℕ}
use mathlib.Core.Logic.{◌↔◌}
use lib.Dec.{T}
use Rattle.sets.specs.Set.{has}
use Rattle.reading.specs.Gains.{Gains, Earlier, KeyLinks}
use Rattle.reading.proofs.linking.key_links.Given as goal

abbrev pub invariant-loop-i : goal.invariant-loop-i
invariant-loop-i l = ((a : ℕ) → T (has l.earlier a) ↔ Earlier l.image l.base l.i a) × Gains l.initial.rows l.rows (KeyLinks l.image l.base l.i)
