-- `trace::records::low_after` meets its contract: each test is one of the four of operation_fits. Assumes nothing.
use Prim.Native.Nat.{◌+◌, ◌/◌, ◌%◌}
use mathlib.Core.Path.{◌≡◌, refl}
use native.Mathlib.Omega.{arith}
use Rattle.search.proofs.Steps.{choose-first, choose-second}
use Rattle.search.proofs.Tests.{T_true, T_false}
use Rattle.endian.specs.Endian.{le_at}
use Rattle.trace.proofs.Tests.{operation_fits-is, operation-parts}
use Rattle.trace.proofs.records.low_after.Goals as goal
use Rattle.trace.proofs.records.low_after.Goals.{After-u32_at-w}

-- the parts of the number that was read
parts : (c : goal.After-u32_at-w) → let a = c.args in let w = c.u32_at-w.result in
    (w % 256 ≡ le_at a.s.now a.at 1) × (w / 256 % 256 ≡ le_at a.s.now (a.at + 1) 1) × (w / 65536 ≡ le_at a.s.now (a.at + 2) 2)
parts c = operation-parts _ (λ i. (c.type_inv.s i).fits) _ c.u32_at-w.ensures

pub returns-then-access-gt1 : goal.returns-then-access-gt1
returns-then-access-gt1 c = choose-second _ _ _ (T_false _ (λ t. let (access, key, zeros, order) = (operation_fits-is _ _ _ _).0 t in omega (arith, parts (goal.at.returns-then-access-gt1 c).After-u32_at-w))) refl

pub returns-then-keys-key : goal.returns-then-keys-key
returns-then-keys-key c = choose-second _ _ _ (T_false _ (λ t. let (access, key, zeros, order) = (operation_fits-is _ _ _ _).0 t in omega (arith, parts (goal.at.returns-then-keys-key c).After-u32_at-w))) refl

pub returns-then-spare-ne0 : goal.returns-then-spare-ne0
returns-then-spare-ne0 c = choose-second _ _ _ (T_false _ (λ t. let (access, key, zeros, order) = (operation_fits-is _ _ _ _).0 t in omega (arith, parts (goal.at.returns-then-spare-ne0 c).After-u32_at-w))) refl

pub returns-then-rank-low : goal.returns-then-rank-low
returns-then-rank-low c = choose-second _ _ _ (T_false _ (λ t. let (access, key, zeros, order) = (operation_fits-is _ _ _ _).0 t in omega (arith, parts (goal.at.returns-then-rank-low c).After-u32_at-w))) refl

pub returns : goal.returns
returns c =
    let p = parts (goal.at.returns c).After-u32_at-w in
    choose-first _ _ _ (T_true _ ((operation_fits-is _ _ _ _).1 (omega arith, omega arith, omega arith, omega arith))) (omega arith)
