-- `trace::form::records_form` meets its contract: before each record the reader stands where the records so far leave it. Assumes nothing.
use Prim.Native.Nat.{◌+◌, ◌-◌, ◌<◌}
use mathlib.Core.Path.{◌≡◌, sym, ap, ◌∙◌}
use native.Mathlib.Omega.{arith}
use Rattle.trace.specs.Meaning.{place_after, RecordSays}
use Rattle.trace.proofs.Pass.{as_read, counted-kept, turn-goes, turn-stops, turn-ends, turn-over}
use Rattle.trace.proofs.form.records_form.Goals as goal
use Rattle.trace.proofs.form.records_form.Goals.{After-counted}

-- the record that was read, at the place where the reader stood
read : (c : After-counted) → RecordSays c.args.s.now c.loop-number.r.at c.args.h.keys c.args.h.clients c.next.result
read c = rw c.loop-number.invariant.0 at c.next.ensures.0

-- there was a record left
some_left : (c : After-counted) → 0 < c.args.h.records + 1 - c.loop-number.number
some_left c = omega (arith, c.loop-number-test.true)

pub returns-in-Err : goal.returns-in-Err
returns-in-Err c =
    let k = (goal.at.returns-in-Err c).After-counted in
    rw c.refused_at.ensures (turn-stops c.loop-number.invariant.1 c.in-Err.why (some_left k) (as_read _ _ _ _ _ _ c.next.result (read k) c.counted.ensures c.in-Err.is))

pub loop-number-preserved : goal.loop-number-preserved
loop-number-preserved c =
    let k = (goal.at.loop-number-preserved c).After-counted in
    let says = as_read c.args.s.now c.loop-number.r.at c.args.h.keys c.args.h.clients c.loop-number.number c.loop-number.made c.next.result (read k) c.counted.ensures c.in-Ok.is in
    let counted = sym (c.counted.ensures c.args.s.now c.args.h.keys) ∙ c.in-Ok.is in
    let place = ap (λ x. place_after x c.loop-number.r.at) (sym (counted-kept c.args.s.now c.args.h.keys c.loop-number.made c.next.result counted) ∙ counted) in
    let left : c.args.h.records + 1 - (c.loop-number.number + 1) ≡ c.args.h.records + 1 - c.loop-number.number - 1 = omega arith in
    rw (c.next.ensures.1, place, left) (c.loop-number.invariant.0, turn-goes c.loop-number.invariant.1 (some_left k) _ _ says (c.commits_with-made.ensures c.args.s.now c.args.h.keys))

pub returns-then-r-s : goal.returns-then-r-s
returns-then-r-s c = turn-over c.loop-number.invariant.1 (omega arith) (λ e. omega arith)

pub returns : goal.returns
returns c = turn-ends c.loop-number.invariant.1 (omega arith) (omega arith)
