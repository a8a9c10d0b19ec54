-- `imaging::write_commit` meets its contract: the word of a commit, and its row of masks behind it. Assumes nothing.
use Prim.Native.Nat.{ℕ, ◌+◌, ◌*◌}
use mathlib.Core.Path.{refl, sym, ap, ◌∙◌, subst}
use mathlib.Core.List.{List, ◌++◌}
use native.Mathlib.Omega.{arith}
use lib.ListN.{get_or}
use Rattle.endian.specs.Endian.{le_bytes, put_at}
use Rattle.endian.proofs.Laws.{length-le_bytes}
use Rattle.endian.proofs.Put.{put_next}
use Rattle.store.specs.Masks.{view_bytes}
use Rattle.store.specs.Limits.{max_keys}
use Rattle.state.specs.Places.{client_rows}
use Rattle.state.specs.Rows.{RowAt}
use Rattle.imaging.proofs.Words.{commit-kept, stored_row-at}
use Rattle.imaging.proofs.write_commit.Goals as goal

pub returns-clause-part_after : goal.returns-clause-part_after
returns-clause-part_after c =
    let a = c.args in
    let part = a.part.now in
    let word = le_bytes 8 (get_or a.commits.now a.t.0 0) in
    λ s kc kv fit keys p l.
    let u = s.view_of a.t.0 in
    let base = client_rows + max_keys * a.t.0 in
    let row = subst (λ (n : ℕ). RowAt n a.views.now base u) keys (stored_row-at s a.views.now a.t.0 base kv p l (omega arith)) in
    put_next part 0 8 8 word (view_bytes a.n u) c.put_u64.ensures (length-le_bytes 8 _) refl (omega arith)
    (c.put_masks.ensures u row)
    ∙ ap (λ (n : ℕ). put_at part 0 (word ++ view_bytes n u)) (sym keys)
    ∙ ap (λ (b : List ℕ). put_at part 0 b) (commit-kept s a.commits.now a.t.0 kc fit p l)
