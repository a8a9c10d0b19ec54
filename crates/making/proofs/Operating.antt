-- A commit has an operation exactly where the set of its ranks is not empty. Assumes nothing.
use Prim.Native.Nat.{ℕ, zero, suc, ◌+◌, ◌*◌, ◌/◌, ◌%◌, ◌^◌, ◌<◌}
use mathlib.Core.Path.{◌≡◌, refl, sym, subst}
use mathlib.Core.Bool.{true, not}
use mathlib.Core.Logic.{inl, inr, ◌↔◌, ◌≢◌}
use mathlib.Core.List.{List}
use native.Mathlib.Omega.{arith}
use native.Mathlib.Decide.{dec_lt}
use lib.Dec.{T, eqb, eqb→eq, T_not, not_T}
use Rattle.search.proofs.Tests.{T_true, true-T, eq_test}
use Rattle.sets.specs.Set.{Set, has, lowest}
use Rattle.sets.proofs.Laws.{has-none, has-lowest}
use Rattle.store.specs.Store.{Commit}
use Rattle.growth.specs.Made.{Operates}
use Rattle.state.specs.Keeps.{KeepsOperations}
use Rattle.state.proofs.Ranks.{reads-rank, writes-rank}

module _ (c : Commit) (ranks : Set) (values : List ℕ) (o : KeepsOperations c ranks values) where
  pub idle-ranks : ranks ≡ 0 → ¬ Operates c
  idle-ranks e (k, inl r) = has-none (2 * k) (subst (λ (m : ℕ). T (has m (2 * k))) e (subst T (reads-rank o k) r))
  idle-ranks e (k, inr w) = has-none (2 * k + 1) (subst (λ (m : ℕ). T (has m (2 * k + 1))) e (subst T (writes-rank o k) w))

  pub busy-ranks : ranks < 2 ^ 64 → ranks ≢ 0 → Operates c
  busy-ranks l n = go (lowest ranks % 2) refl
    where
      p : 0 < ranks
      p = above (dec_lt 0 ranks)
        where
          above : Dec (0 < ranks) → 0 < ranks
          above (yes x) = x
          above (no x) = absurd (n (omega arith))

      t : T (has ranks (lowest ranks))
      t = has-lowest ranks p l

      k : ℕ
      k = lowest ranks / 2

      go : (r : ℕ) → lowest ranks % 2 ≡ r → Operates c
      go zero e = (k, inl (subst T (sym (reads-rank o k)) (subst (λ (i : ℕ). T (has ranks i)) (even e) t)))
        where
          even : lowest ranks % 2 ≡ 0 → lowest ranks ≡ 2 * (lowest ranks / 2)
          even q = omega arith
      go (suc r) e = (k, inr (subst T (sym (writes-rank o k)) (subst (λ (i : ℕ). T (has ranks i)) (odd e) t)))
        where
          odd : lowest ranks % 2 ≡ suc r → lowest ranks ≡ 2 * (lowest ranks / 2) + 1
          odd q = omega arith

  -- as the code tests it
  pub operates-is : ranks < 2 ^ 64 → (not (eqb ranks 0) ≡ true) ↔ Operates c
  operates-is w = (
    λ e. busy-ranks w (λ q. T_not (eqb ranks 0) (true-T (not (eqb ranks 0)) e) (eq_test ranks 0 q)),
    λ o. T_true (not (eqb ranks 0)) (not_T (eqb ranks 0) (λ t. idle-ranks (eqb→eq ranks 0 t) o)),
  )
