-- `converting::kinds::put_long` meets its contract: each sort of record by what its call ensures. Assumes nothing.
use Prim.Native.Nat.{◌+◌}
use mathlib.Core.Path.{sym, ap, ◌∙◌}
use native.Mathlib.Omega.{arith}
use Rattle.endian.specs.Endian.{put_at}
use Rattle.converting.proofs.EitherEdition.{shift-parts, shift-view, long-shift, long-shift-length, commit-parts, commit-view, long-commit, long-commit-length}
use Rattle.converting.proofs.kinds.put_long.Goals as goal

pub put_shift-requires : goal.put_shift-requires
put_shift-requires c =
    let is = c.in-Shift.is in
    let room = long-shift-length c.args.file.now c.args.n is c.requires.x_in_bounds.0 in
    (c.requires.n_le_max_keys.0, (shift-parts _ _ is c.requires.n_le_max_keys.1).0, omega arith, omega (arith, c.requires.x_in_bounds.1))

pub put_commit-requires-clause-count_in_bounds : goal.put_commit-requires-clause-count_in_bounds
put_commit-requires-clause-count_in_bounds c =
    let is = c.in-Commit.is in
    let (below, listing, operations) = commit-parts _ _ is c.requires.n_le_max_keys.1 in
    let room = long-commit-length c.args.file.now c.args.n is c.requires.x_in_bounds.0 in
    (operations.0, operations.1, omega (arith, c.requires.x_in_bounds.1))

pub returns-in-Shift : goal.returns-in-Shift
returns-in-Shift c =
    let a = c.args in
    let is = c.in-Shift.is in
    let put = c.put_shift.ensures in record { next = λ g. put.value ∙ ap (λ m. a.at + m) (sym (long-shift-length a.file.now _ is g)); put = λ g views base m. put.buffer_after _ (shift-view a.file.now _ is m).after ∙ ap (put_at a.buffer.now a.at) (sym (long-shift a.file.now _ is g)) }

pub returns-in-Commit : goal.returns-in-Commit
returns-in-Commit c =
    let a = c.args in
    let is = c.in-Commit.is in
    let put = c.put_commit.ensures in record { next = λ g. put.value ∙ ap (λ m. a.at + m) (sym (long-commit-length a.file.now _ is g)); put = λ g views base m. put.buffer_after _ (commit-view a.file.now _ is m).after ∙ ap (put_at a.buffer.now a.at) (sym (long-commit a.file.now _ is g)) }
