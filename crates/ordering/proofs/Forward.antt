-- Where each commit reads the last version of a key, the links of a store lead from lower to higher numbers. Assumes nothing.
use Prim.Native.Nat.{ℕ, suc, ◌-◌, ◌^◌, ◌≤◌, ◌<◌}
use mathlib.Core.Path.{◌≡◌}
use mathlib.Core.Logic.{◌⊎◌, inl, inr}
use native.Mathlib.Omega.{arith}
use lib.Dec.{T}
use Rattle.sets.specs.Set.{below, highest}
use Rattle.sets.proofs.Laws.{has-large, has-below, below-has, below_word, has-highest, highest-most}
use Rattle.store.specs.Store.{Key, View, Store, opening_store, opening, count, next_number, Commit}
use Rattle.store.specs.Update.{reads, writes, newest, update}
use Rattle.store.specs.History.{Wrote, Read}
use Rattle.store.proofs.Updated.{wrote-update, read-update}
use Rattle.store.specs.Sound.{SoundStore}
use Rattle.store.proofs.Sound.{opening-unread, sound-opening}

-- the highest of the numbers below n
pub highest-below : (n : ℕ) → 0 < n → n ≤ 64 → suc (highest (below n)) ≡ n
highest-below n p l =
    let some : 2 ^ 0 ≤ below n = has-large (below n) 0 (has-below n 0 p) in
    let word = below_word n l in
    let high : highest (below n) < n = below-has n (highest (below n)) (has-highest (below n) (omega arith) word) in
    let most : n - 1 ≤ highest (below n) = highest-most (below n) (omega arith) word (n - 1) (has-below n (n - 1) (omega arith)) in
    omega arith

-- the links of the store lead to higher numbers; an RW link may lead to the same commit, and is none then
pub record Forward (s : Store) : Type 0 where
  pub wr : (a b k i : ℕ) → Wrote s a k i → Read s b k i → a < b
  pub ww : (a b k i j : ℕ) → Wrote s a k i → Wrote s b k j → i < j → a < b
  pub rw-up : (a b k i j : ℕ) → Read s a k i → Wrote s b k j → i < j → a ≤ b

pub forward-opening : (keys : ℕ) → Forward (opening_store keys)
unfolding opening opening_store
forward-opening keys = record {
  wr = λ a b k i w r. absurd (opening-unread keys b k i r);
  ww = λ a b k i j w v l. let few = (sound-opening keys).store.few k in let q = v.0 in absurd (late k j q few l);
  rw-up = λ a b k i j r w l. absurd (opening-unread keys a k i r);
}
  where
    late : (k j : ℕ) → j < count (opening_store keys) k → count (opening_store keys) k ≤ 1 → {i : ℕ} → i < j → ⊥
    late k j q few l = omega arith

-- a commit whose reads are of the last version keeps it so
pub forward-update : (s : Store) (u : View) (c : Commit) → SoundStore s → ((k : Key) → T (reads c k) → suc (newest u k) ≡ count s k)
    → Forward s → Forward (update s u c)
forward-update s u c h last f = record {
  wr = λ a b k i w r. wr-up a b k i (wrote-update s u c a k i w) (read-update s u c b k i r);
  ww = λ a b k i j w v l. ww-up a b k i j l (wrote-update s u c a k i w) (wrote-update s u c b k j v);
  rw-up = λ a b k i j r w l. rw-step a b k i j l (read-update s u c a k i r) (wrote-update s u c b k j w);
}
  where
    W : ℕ → ℕ → ℕ → Type 0
    W a k i = Wrote s a k i ⊎ ((a ≡ next_number s) × T (writes c k) × (i ≡ count s k))

    R : ℕ → ℕ → ℕ → Type 0
    R a k i = Read s a k i ⊎ ((a ≡ next_number s) × T (reads c k) × (i ≡ newest u k))

    wr-up : (a b k i : ℕ) → W a k i → R b k i → a < b
    wr-up a b k i (inl w) (inl r) = f.wr a b k i w r
    wr-up a b k i (inl w) (inr (e, x, q)) = let l = h.writers a k i w in omega (arith, l)
    wr-up a b k i (inr (e, x, q)) (inl r) = let l : i < count s k = r.0 in absurd (omega arith)
    wr-up a b k i (inr (e, x, q)) (inr (e', x', q')) = let z = last k x' in absurd (omega (arith, z))

    ww-up : (a b k i j : ℕ) → i < j → W a k i → W b k j → a < b
    ww-up a b k i j l (inl w) (inl v) = f.ww a b k i j w v l
    ww-up a b k i j l (inl w) (inr (e, x, q)) = let m = h.writers a k i w in omega (arith, m)
    ww-up a b k i j l (inr (e, x, q)) (inl v) = let m : j < count s k = v.0 in absurd (omega arith)
    ww-up a b k i j l (inr (e, x, q)) (inr (e', x', q')) = absurd (omega arith)

    rw-step : (a b k i j : ℕ) → i < j → R a k i → W b k j → a ≤ b
    rw-step a b k i j l (inl r) (inl w) = f.rw-up a b k i j r w l
    rw-step a b k i j l (inl r) (inr (e, x, q)) = let m = h.readers a k i r in omega (arith, m)
    rw-step a b k i j l (inr (e, x, q)) (inl w) = let m : j < count s k = w.0 in let z = last k x in absurd (omega (arith, z))
    rw-step a b k i j l (inr (e, x, q)) (inr (e', x', q')) = omega arith
