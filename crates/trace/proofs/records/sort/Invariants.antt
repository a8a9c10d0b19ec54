-- `trace::records::sort` meets its contract: the operations passed fit and are sorted, and what is left to test comes to the whole test. Assumes nothing.
use Prim.Native.Nat.{◌+◌, ◌-◌, ◌*◌}
use mathlib.Core.Path.{◌≡◌}
use Rattle.trace.specs.Format.{operations_fit}
use Rattle.trace.specs.Sorted.{ValuesFit}
use Rattle.trace.proofs.Ranks.{SortedUp}
use Rattle.trace.proofs.records.sort.Given as goal

abbrev pub invariant-loop-i : goal.invariant-loop-i
invariant-loop-i l = record {
  left_to_test : operations_fit l.s l.start l.keys 0 l.m ≡ operations_fit l.s (l.start + 8 * l.i) l.keys l.low (l.m - l.i);
  sorted : SortedUp l.s l.start l.i l.ranks l.low l.values;
  small : ValuesFit l.initial.values → ValuesFit l.values;
}
