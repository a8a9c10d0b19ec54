-- `trace::records::sort` meets its contract: the operations passed fit and are sorted, and what is left to test comes to the whole test. Assumes nothing.
use Prim.Native.Nat.{◌+◌, ◌-◌, ◌*◌, ◌<◌}
use mathlib.Core.Path.{◌≡◌, refl, ◌∙◌}
use mathlib.Core.Bool.{true}
use native.Mathlib.Omega.{arith}
use Rattle.store.specs.Limits.{max_keys}
use Rattle.trace.specs.Format.{rank_at, operation_fits}
use Rattle.trace.specs.Sorted.{SortSays}
use Rattle.trace.proofs.Ranks.{sorted_none, next_fits, sorted-turn, values-put}
use Rattle.trace.proofs.Tests.{low-rises, low-stops, operations_fit-next, operations_fit-stop, operations_fit-none}
use Rattle.trace.proofs.records.sort.Goals as goal
use Rattle.trace.proofs.records.sort.Goals.{After-u32_at}

pub loop-i-init : goal.loop-i-init
loop-i-init c =
    let a = c.args in
    let here : a.start + 8 * 0 ≡ a.start = omega arith in
    let whole : a.m - 0 ≡ a.m = omega arith in record {
      left_to_test = rw (here, whole) refl;
      sorted = sorted_none _ _ _ _ refl;
      small = λ small. small;
    }

pub returns-then-low-eq0 : goal.returns-then-low-eq0
unfolding SortSays
returns-then-low-eq0 c =
    let h = c.loop-i.invariant in
    let fails = low-stops _ _ c.low_after-low.ensures c.if-low-eq0.true in record { said = h.left_to_test ∙ operations_fit-stop _ _ _ _ _ (omega arith) fails; small = h.small }

-- the operation fits: what is left is its rank and one more
fitting : (c : goal.After-u32_at) → let l = c.loop-i in
    let s = c.args.s.now in
    let at = c.args.start + 8 * l.i in (operation_fits s at c.args.keys l.low ≡ true) × (c.low_after-low.result ≡ rank_at s at + 1) × (rank_at s at < 2 * max_keys)
fitting c =
    let l = c.loop-i in
    let (fits, above) = low-rises _ _ c.low_after-low.ensures (λ e. omega arith) in
    let (access, key, zeros, rises) = next_fits c.args.keys l.invariant.sorted refl fits in
    (fits, above, omega (arith, c.requires.1))

pub offset_bounds-values-rank : goal.offset_bounds-values-rank
offset_bounds-values-rank c = omega (arith, (fitting c).1, (fitting c).2)

pub bounds-values-rank : goal.bounds-values-rank
bounds-values-rank c = omega (arith, (fitting c).1, (fitting c).2)

pub overflow_shl-ranks : goal.overflow_shl-ranks
overflow_shl-ranks c = omega (arith, (fitting c).1, (fitting c).2)

pub loop-i-preserved : goal.loop-i-preserved
loop-i-preserved c =
    let l = c.loop-i in
    let h = l.invariant in
    let (fits, above, few) = fitting c in record {
      left_to_test = h.left_to_test ∙ operations_fit-next _ _ _ _ _ (omega arith) (omega arith) fits above;
      sorted = sorted-turn c.args.keys h.sorted refl fits c.requires.1 (omega arith) (omega arith) (omega arith) (omega arith) c.u32_at.ensures;
      small = λ small. values-put l.values (h.small small) (omega arith) (omega arith);
    }

pub returns : goal.returns
unfolding SortSays
returns c =
    let l = c.loop-i in
    let all : l.i ≡ c.args.m = omega arith in record { said = (l.invariant.left_to_test ∙ operations_fit-none _ _ _ _ _ (omega arith), rw all at l.invariant.sorted.by_rank); small = l.invariant.small }
