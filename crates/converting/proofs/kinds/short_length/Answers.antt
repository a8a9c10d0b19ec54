-- `converting::kinds::short_length` meets its contract. Assumes nothing.
use mathlib.Core.Path.{ap}
use native.Mathlib.Omega.{arith}
use Rattle.sets.specs.Set.{size}
use Rattle.converting.proofs.EitherEdition.{shift-view, short-shift-length, commit-parts, commit-few, short-commit-length}
use Rattle.converting.proofs.kinds.short_length.Goals as goal

pub keys_in-requires : goal.keys_in-requires
keys_in-requires c =
    let is = c.in-Commit.is in
    ((commit-parts c.args.file.now c.args.n is c.requires.1).2.0, omega (arith, commit-few c.args.file.now c.args.n is c.requires.1))

pub returns-in-Shift-clause-reckoned : goal.returns-in-Shift-clause-reckoned
returns-in-Shift-clause-reckoned c =
    let is = c.in-Shift.is in
    let found = c.size.ensures.0 in
    λ g m.
    let v = shift-view c.args.file.now c.args.n is m in
    let same = ap size (c.differing.ensures _ _ v.before v.after) in
    let long = short-shift-length c.args.file.now c.args.n is g in
    omega arith

pub returns-in-Commit : goal.returns-in-Commit
returns-in-Commit c =
    let is = c.in-Commit.is in
    let found = c.keys_in.ensures.0 in record {
      few = omega (arith, c.keys_in.ensures.1, commit-few c.args.file.now c.args.n is c.requires.1);
      reckoned = λ g m.
          let long = short-commit-length c.args.file.now c.args.n is (λ i. (c.type_inv.file i).fits) c.requires.1 g in
          omega arith;
    }
