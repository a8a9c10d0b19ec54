-- A run of the commits of a bare image, each made on a full view: its stores are sound and their links lead to higher numbers. Assumes nothing.
use Prim.Native.Nat.{ℕ, zero, suc, ◌≤◌, ◌<◌}
use mathlib.Core.Path.{◌≡◌, refl, sym, ap, subst}
use native.Mathlib.Omega.{arith}
use Rattle.store.specs.Store.{Key, CommitNumber, Store, opening_store, opening, count, read, write}
use Rattle.store.specs.Update.{newest, update}
use Rattle.store.specs.Sound.{SoundStore}
use Rattle.store.proofs.Sound.{sound-opening, sound-update}
use Rattle.answer.specs.Replay.{full_view}
use Rattle.ordering.specs.Order.{commit_of, made_after}
use Rattle.ordering.proofs.Operations.{does-out}
use Rattle.ordering.proofs.Forward.{highest-below, Forward, forward-opening, forward-update}

module _ (s : Store) (ν : CommitNumber → CommitNumber) where
  pub after-keys : (n : ℕ) → (made_after s ν n).keys ≡ s.keys
  unfolding made_after opening_store update
  after-keys zero = refl
  after-keys (suc n) = after-keys n

  pub after-commits : (n : ℕ) → (made_after s ν n).commits ≡ n
  unfolding made_after opening_store update
  after-commits zero = refl
  after-commits (suc n) = ap suc (after-commits n)

  module _ (only : (k i : ℕ) → i < count s k → k < s.keys) where
    pub after-sound : (n : ℕ) → SoundStore (made_after s ν n)
    unfolding made_after opening
    after-sound zero = (sound-opening s.keys).store
    after-sound (suc n) =
        let g = made_after s ν n in
        sound-update g (full_view g) (commit_of s (ν (suc n))) (after-sound n)
        (λ k t. subst (λ (x : ℕ). k < x) (sym (after-keys n)) (does-out s only (ν (suc n)) read k t).0)
        (λ k t. subst (λ (x : ℕ). k < x) (sym (after-keys n)) (does-out s only (ν (suc n)) write k t).0)

    -- a full view sees the last version of each key
    pub newest-last : (n : ℕ) → n ≤ 63 → (k : Key) → k < s.keys → suc (newest (full_view (made_after s ν n)) k) ≡ count (made_after s ν n) k
    newest-last n l k m =
        highest-below (count (made_after s ν n) k) ((after-sound n).some-version k (subst (λ (x : ℕ). k < x) (sym (after-keys n)) m))
        (omega (arith, (after-sound n).few k, after-commits n))

    pub after-forward : (n : ℕ) → n ≤ 64 → Forward (made_after s ν n)
    unfolding made_after
    after-forward zero l = forward-opening s.keys
    after-forward (suc n) l =
        forward-update (made_after s ν n) (full_view (made_after s ν n)) (commit_of s (ν (suc n))) (after-sound n)
        (λ k t. newest-last n (omega arith) k (does-out s only (ν (suc n)) read k t).0) (after-forward n (omega arith))
