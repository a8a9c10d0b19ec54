-- The opening store has the opening history: version 0 of each key by number 0, read by nobody. Assumes nothing.
use Prim.Native.Nat.{ℕ, ◌≤◌, ◌<◌}
use native.Mathlib.Omega.{arith}
use mathlib.Core.Path.{subst}
use lib.Dec.{T, ltb}
use Rattle.sets.specs.Set.{has}
use Rattle.sets.proofs.Laws.{has-none}
use Rattle.dependencies.proofs.Opening.{Opening}
use Rattle.store.specs.Store.{Version, opening_store, opening, count}
use Rattle.store.proofs.Sound.{opening-first, sound-opening}
use Rattle.store.specs.History.{history}

-- "At the start each list is version 0: value 0, writer the opening transaction (number 0), no readers"
pub opening-history : (keys : ℕ) → Opening (history (opening keys).store)
unfolding opening opening_store
opening-history keys = record {
  only-first = λ a k i w.
      let h = (sound-opening keys).store in
      let a_lt : a < 1 = h.writers a k i w in
      let few : count (opening_store keys) k ≤ 1 = h.few k in
      let i_lt : i < count (opening_store keys) k = w.0 in
      (omega arith, omega arith);
  no-readers = λ a k i r. has-none a (subst (λ (v : Version). T (has v.readers a)) (opening-first (ltb k keys) i r.0).1 r.1);
}
