-- `trace::records::keys_in` meets its contract: what was counted, and what is left. Assumes nothing.
use Prim.Native.Nat.{◌+◌, ◌-◌, ◌*◌}
use mathlib.Core.Path.{◌≡◌, sym, ◌∙◌}
use native.Mathlib.Omega.{arith}
use Rattle.trace.proofs.Counted.{keys-start, keys-done, keys-same, keys-other}
use Rattle.trace.proofs.records.keys_in.Goals as goal
use Rattle.trace.proofs.records.keys_in.Goals.{then-key-last, else-key-last}

pub loop-i-init : goal.loop-i-init
loop-i-init c =
    let a = c.args in
    let here : a.start + 8 * 0 ≡ a.start = omega arith in
    let whole : a.m - 0 ≡ a.m = omega arith in (omega arith, rw (here, whole) (omega (arith, keys-start a.s.now (λ i. (c.type_inv.s i).fits) a.start a.m)))

pub loop-i-preserved : goal.loop-i-preserved
loop-i-preserved c =
    let a = c.args in
    let l = c.loop-i in
    let key = c.byte_at-key.ensures.0 in
    elim c.if-key-last.branch [
      | then-key-last w ↦
          rw key (omega (arith, w.count-is), omega (arith, w.count-is, keys-other a.s.now a.start a.m l.i (omega arith) l.last (λ e. w.if-key-last.true (key ∙ e))))
      | else-key-last w ↦
          rw key (omega (arith, w.count-is), omega (arith, w.count-is, keys-same a.s.now a.start a.m l.i (omega arith) l.last (sym key ∙ w.if-key-last.false)))
    ]

pub returns : goal.returns
returns c = let l = c.loop-i in (omega (arith, keys-done c.args.s.now l.last (c.args.start + 8 * l.i) (c.args.m - l.i) (omega arith)), omega arith)
