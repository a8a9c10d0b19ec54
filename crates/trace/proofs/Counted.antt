-- Counts as the code makes them: the keys of operations one after the other, and the masks that are listed key by key. Assumes nothing.
use Prim.Native.Nat.{ℕ, zero, suc, ◌+◌, ◌-◌, ◌*◌, ◌/◌, ◌^◌, ◌≤◌, ◌<◌}
use mathlib.Core.Path.{◌≡◌, refl}
use mathlib.Core.Logic.{◌≢◌}
use mathlib.Core.List.{List, ◌∷◌}
use native.Mathlib.Omega.{arith}
use native.Mathlib.Nat.{div-eq_of_lt, div-lt_iff_lt-mul}
use native.Mathlib.Decide.{dec_lt}
use lib.Pow.{pow_pos}
use borrow.Author.Tests.{eq-eqb, ne_eqb}
use Rattle.search.specs.Choose.{choose}
use Rattle.endian.specs.Endian.{Bytes, le_at}
use Rattle.endian.proofs.Laws.{le_at-lt}
use Rattle.trace.specs.Listed.{keys_after, keys_in}
use Rattle.trace.specs.Format.{operation_at, operations_at}

-- the operations from a place on after one of key j, one by one
module _ (s : List ℕ) where
  -- no key is 256
  pub keys-start : Bytes s → (at m : ℕ) → keys_after 256 (operations_at s at m) ≡ keys_in (operations_at s at m)
  unfolding operations_at keys_after keys_in choose
  keys-start bytes at zero = refl
  keys-start bytes at (suc m) =
      let small = le_at-lt s bytes 1 (at + 1) in
      rw (ne_eqb (le_at s (at + 1) 1) 256 (omega arith)) (omega arith)

  pub keys-done : (j at left : ℕ) → left ≡ 0 → keys_after j (operations_at s at left) ≡ 0
  unfolding operations_at keys_after
  keys-done j at left e = rw e refl

  -- the m operations from `start` on, once i of them are passed
  module _ (start m i : ℕ) (more : i < m) where
    pub after-one : operations_at s (start + 8 * i) (m - i) ≡ operation_at s (start + 8 * i) ∷ operations_at s (start + 8 * (i + 1)) (m - (i + 1))
    unfolding operations_at
    after-one =
        let left : m - i ≡ suc (m - (i + 1)) = omega arith in
        let next : start + 8 * i + 8 ≡ start + 8 * (i + 1) = omega arith in
        rw (left, next)

    pub keys-same : (j : ℕ) → le_at s (start + 8 * i + 1) 1 ≡ j
        → keys_after j (operations_at s (start + 8 * i) (m - i)) ≡ keys_after (le_at s (start + 8 * i + 1) 1) (operations_at s (start + 8 * (i + 1)) (m - (i + 1)))
    unfolding keys_after choose
    keys-same j e = rw (after-one, eq-eqb (le_at s (start + 8 * i + 1) 1) j e) (omega arith)

    pub keys-other : (j : ℕ) → le_at s (start + 8 * i + 1) 1 ≢ j
        → keys_after j (operations_at s (start + 8 * i) (m - i)) ≡ suc (keys_after (le_at s (start + 8 * i + 1) 1) (operations_at s (start + 8 * (i + 1)) (m - (i + 1))))
    unfolding keys_after choose
    keys-other j e = rw (after-one, ne_eqb (le_at s (start + 8 * i + 1) 1) j e) (omega arith)

-- ---- a set within the keys

pub above : (m k : ℕ) → m / 2 ^ k ≢ 0 → 2 ^ k ≤ m
above m k n = go (dec_lt m (2 ^ k))
  where
    go : Dec (m < 2 ^ k) → 2 ^ k ≤ m
    go (yes l) = absurd (n (div-eq_of_lt l))
    go (no g) = omega arith

pub under : (m k : ℕ) → m / 2 ^ k ≡ 0 → m < 2 ^ k
under m k e =
    let one : m / 2 ^ k < 1 = omega arith in
    let less = (div-lt_iff_lt-mul {k = 2 ^ k} {x = m} {y = 1} (pow_pos k)).0 one in
    omega (arith, less)
