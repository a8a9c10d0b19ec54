-- The full view of a store is a view of it; a view that holds every version of a key sees the last. Assumes nothing.
use mathlib.Core.Path.{◌≡◌, ap}
use Prim.Native.Nat.{ℕ, suc, ◌-◌, ◌^◌, ◌≤◌, ◌<◌}
use native.Mathlib.Omega.{arith}
use native.Mathlib.Decide.{dec_lt}
use lib.Dec.{T}
use Rattle.sets.specs.Set.{has, below, width}
use Rattle.sets.proofs.Laws.{has-below, below-has, below_word, has-large, has-highest, highest-most}
use Rattle.store.specs.Store.{Key, View, Store, count, next_number}
use Rattle.store.specs.Update.{newest}
use Rattle.store.specs.View.{IsView}
use Rattle.store.specs.Sound.{SoundStore}
use Rattle.answer.specs.Replay.{full_view}

-- the view holds every version of the key
abbrev pub HoldsAll : Store → View → Key → Type 0
HoldsAll s u k = (i : ℕ) → i < count s k → T (has (u k) i)

pub full-holds-all : (s : Store) (k : Key) → HoldsAll s (full_view s) k
full-holds-all s k i l = has-below (count s k) i l

-- a full view is a view, where a word has room for all versions
pub full-view : (s : Store) → SoundStore s → next_number s ≤ width → IsView s (full_view s)
full-view s h room = record {
  word = λ k. below_word (count s k) (omega (arith, h.few k));
  beyond = λ k l. ap below (none-beyond k l (dec_lt 0 (count s k)));
  opened = λ k l. full-holds-all s k 0 (h.some-version k l);
  exist = λ k i t. below-has (count s k) i t;
  whole = λ t k i l j b w v. full-holds-all s l j v.0;
}
  where
    none-beyond : (k : Key) → s.keys ≤ k → Dec (0 < count s k) → count s k ≡ 0
    none-beyond k l (yes p) = let q : k < s.keys = h.only-keys k 0 p in absurd (omega arith)
    none-beyond k l (no n) = omega arith

-- a view that holds every version of a key sees the last
pub newest-of-all : (s : Store) (u : View) → IsView s u → (k : Key) → k < s.keys → 0 < count s k → HoldsAll s u k → suc (newest u k) ≡ count s k
newest-of-all s u v k l p all =
    let some : 2 ^ 0 ≤ u k = has-large (u k) 0 (v.opened k l) in
    let high : newest u k < count s k = v.exist k (newest u k) (has-highest (u k) (omega arith) (v.word k)) in
    let most : count s k - 1 ≤ newest u k = highest-most (u k) (omega arith) (v.word k) (count s k - 1) (all (count s k - 1) (omega arith)) in
    omega arith
