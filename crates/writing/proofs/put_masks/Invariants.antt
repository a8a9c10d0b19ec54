-- `writing::put_masks` meets its contract. The loop's invariant: the masks passed stand from `at` on. Assumes nothing.
use mathlib.Core.Path.{◌≡◌}
use Rattle.endian.specs.Endian.{put_at}
use Rattle.store.specs.Store.{View}
use Rattle.trace.specs.Encode.{view_bytes}
use Rattle.state.specs.Rows.{RowAt}
use Rattle.writing.proofs.put_masks.Given as goal

abbrev pub invariant-loop-k : goal.invariant-loop-k
invariant-loop-k l = (u : View) → RowAt l.n l.masks l.base u → l.buffer ≡ put_at l.initial.buffer l.at (view_bytes l.k u)
