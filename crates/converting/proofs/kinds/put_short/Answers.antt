-- `converting::kinds::put_short` meets its contract: each sort of record by what its call ensures. Assumes nothing.
use Prim.Native.Nat.{◌+◌, ◌^◌, ◌<◌}
use mathlib.Core.Path.{sym, ap, ◌∙◌, subst}
use native.Mathlib.Omega.{arith}
use Rattle.sets.specs.Set.{size}
use Rattle.endian.specs.Endian.{put_at}
use Rattle.trace.specs.Format.{short_shift_length}
use Rattle.trace.proofs.Edition.{changed-small}
use Rattle.converting.proofs.EitherEdition.{shift-parts, shift-view, short-shift-put, short-shift-length, commit-parts, commit-view, short-commit, short-commit-length}
use Rattle.converting.proofs.kinds.put_short.Goals as goal

pub put_short_shift-requires : goal.put_short_shift-requires
put_short_shift-requires c =
    let a = c.args in
    let is = c.in-Shift.is in
    let (g, m, room) = c.requires.meant in
    let v = shift-view a.file.now a.n is m in
    let same = c.differing-listed.ensures _ _ v.before v.after in
    let sizes = ap size same in
    let long = short-shift-length a.file.now a.n is g in
    (c.requires.n_le_max_keys.0, (shift-parts a.file.now a.n is c.requires.n_le_max_keys.1).0, omega arith, subst (λ s. s < 2 ^ a.n) (sym same) (changed-small _ _ _), omega arith)

pub put_short_commit-requires-clause-count_in_bounds : goal.put_short_commit-requires-clause-count_in_bounds
put_short_commit-requires-clause-count_in_bounds c =
    let a = c.args in
    let is = c.in-Commit.is in
    let (g, m, room) = c.requires.meant in
    let (below, listing, operations) = commit-parts a.file.now a.n is c.requires.n_le_max_keys.1 in
    let long = short-commit-length a.file.now a.n is (λ i. (c.type_inv.file i).fits) c.requires.n_le_max_keys.1 g in
    (operations.0, operations.1, omega arith)

pub returns-in-Shift : goal.returns-in-Shift
returns-in-Shift c =
    let a = c.args in
    let is = c.in-Shift.is in
    let put = c.put_short_shift.ensures in
    let found = c.differing-listed.ensures in record {
      next = λ g m.
          let v = shift-view a.file.now a.n is m in
          put.value ∙ ap (λ s. a.at + short_shift_length s) (found _ _ v.before v.after) ∙ ap (λ k. a.at + k) (sym (short-shift-length a.file.now a.n is g));
      put = λ g m.
          let v = shift-view a.file.now a.n is m in
          short-shift-put a.file.now a.n is g a.buffer.now a.at (found _ _ v.before v.after) (put.buffer_after _ v.after);
    }

pub returns-in-Commit : goal.returns-in-Commit
returns-in-Commit c =
    let a = c.args in
    let is = c.in-Commit.is in
    let put = c.put_short_commit.ensures in record { next = λ g m. put.value ∙ ap (λ k. a.at + k) (sym (short-commit-length a.file.now a.n is (λ i. (c.type_inv.file i).fits) c.requires.n_le_max_keys.1 g)); put = λ g m. put.buffer_after _ (commit-view a.file.now a.n is m).after ∙ ap (put_at a.buffer.now a.at) (sym (short-commit a.file.now a.n is g)) }
