-- The masks of a view: how long they are, that they are bytes, and that they read back. Assumes nothing.
use Prim.Native.Nat.{ℕ, ◌+◌, ◌*◌, ◌<◌}
use mathlib.Core.Path.{◌≡◌, sym, ◌∙◌, fun_ext}
use mathlib.Core.List.{List}
use native.Mathlib.Omega.{arith}
use native.Mathlib.Decide.{dec_lt}
use lib.Dec.{ltb, lt→ltb}
use lib.Arith.{le→nltb}
use lib.ListN.{length}
use Rattle.search.proofs.Choose.{choose_yes, choose_no}
use Rattle.endian.specs.Endian.{Bytes, le_at, le_bytes}
use Rattle.endian.proofs.Laws.{length-le_bytes, length-pieces, bytes-le_bytes, bytes-pieces}
use Rattle.endian.proofs.Stands.{Stands, stands-piece, read-fitting}
use Rattle.store.specs.Store.{View}
use Rattle.store.specs.View.{FitsView}
use Rattle.store.specs.Masks.{view_bytes, view_at}

pub length-view_bytes : (keys : ℕ) (u : View) → length (view_bytes keys u) ≡ 8 * keys
unfolding view_bytes
length-view_bytes keys u = length-pieces keys 8 (λ k. le_bytes 8 (u k)) (λ k. length-le_bytes 8 (u k))

pub view-bytes : (keys : ℕ) (u : View) → Bytes (view_bytes keys u)
unfolding view_bytes
view-bytes keys u = bytes-pieces keys (λ k. le_bytes 8 (u k)) (λ k. bytes-le_bytes 8 (u k))

pub view-back : (s : List ℕ) (at keys : ℕ) (u : View) → FitsView keys u → Stands s at (view_bytes keys u) → view_at s at keys ≡ u
unfolding view_at view_bytes
view-back s at keys u fits h = fun_ext (λ k. at_key k (dec_lt k keys))
  where
    at_key : (k : ℕ) → Dec (k < keys) → view_at s at keys k ≡ u k
    at_key k (yes below) =
        choose_yes (ltb k keys) (le_at s (at + 8 * k) 8) 0 (lt→ltb _ _ below)
        ∙ read-fitting 8 (u k) (fits.word k) (stands-piece keys 8 k (λ j. le_bytes 8 (u j)) (λ j. length-le_bytes 8 (u j)) below h)
    at_key k (no beyond) =
        choose_no (ltb k keys) (le_at s (at + 8 * k) 8) 0 (le→nltb k keys (omega arith)) ∙ sym (fits.beyond k (omega arith))
