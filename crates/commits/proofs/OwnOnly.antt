-- A commit whose view after is the view before and its own versions. Assumes nothing.
use Prim.Native.Nat.{ℕ, ◌<◌}
use mathlib.Core.Path.{◌≡◌, sym, subst}
use mathlib.Core.Option.{none}
use mathlib.Core.List.{List}
use native.Mathlib.Omega.{arith}
use lib.Dec.{T}
use lib.ListN.{get_or}
use Rattle.sets.specs.Set.{Set, single, union}
use Rattle.dependencies.specs.History as D
use Rattle.store.specs.Limits.{max_clients}
use Rattle.store.specs.Store.{Configuration, Commit}
use Rattle.store.specs.Update.{writes, view_before, store_after}
use Rattle.store.specs.History.{history, held}
use Rattle.growth.specs.Made.{Writes}
use Rattle.state.specs.Keeps.{IsSet, KeepsOperations}
use Rattle.state.specs.Accesses.{Left}
use Rattle.state.proofs.Accesses.{left-none, left-some}
use Rattle.state.proofs.Sets.{is_set-as, is_set-none, is_set-single}
use Rattle.views.specs.Own.{AddsOwn}
use Rattle.state.proofs.Ranks.{writes-rank}
use Rattle.views.proofs.OwnView.{own-good, own-not-stray, own-holds}
use Rattle.shifts.proofs.Refused.{masks-good}
use Rattle.commits.specs.Codes.{late_refusal, LateGiven}
use Rattle.commits.proofs.Cases.{late-none, late-holds}

-- ---- the commit's own number

-- the set of it where the commit writes something, and the empty one where it does not
module _ (ranks : Set) (n me : ℕ) {left : Set} (keys : Left ranks 1 n 0 left) (c : Commit) (values : List ℕ) (h : KeepsOperations c ranks values) (small : (k : ℕ) → T (writes c k) → k < n) where
  pub number-none : left ≡ 0 → IsSet 0 (λ t. (t ≡ me) × Writes c)
  number-none e = is_set-none (λ t (_, (k, w)). left-none keys e k (omega arith) (small k w) (subst T (writes-rank h k) w))

  pub number-alone : {set : Set} → set ≡ single me → ¬ (left ≡ 0) → IsSet set (λ t. (t ≡ me) × Writes c)
  number-alone q x =
      let (k, t) = left-some keys x in
      rw q (is_set-as _ (λ t'. (λ e. (e, (k, subst T (sym (writes-rank h k)) t)), λ (e, _). e)) (is_set-single me))

-- ---- the view after

module _ {g : Configuration} {c : Commit} {values versions keys fresh views seen : List ℕ} {client : ℕ} {ranks : Set} {n me : ℕ}
    (l : LateGiven g c values versions keys fresh views seen client ranks n me) (adds : AddsOwn g.store (view_before g c) c) where
  -- no code is due
  pub own-not-refused : (i : ℕ) → none ≡ late_refusal i g c
  own-not-refused i =
      let good = own-good g.store (view_before g c) c l.made adds in
      late-none i g c (masks-good i _ _ good.0 good.1) (own-not-stray g.store (view_before g c) c l.made adds)

  -- and it holds the commits that the view before holds, and the commit where it writes something
  pub own-seen : client < max_clients → (own : ℕ) → IsSet own (λ t. (t ≡ me) × Writes c) → {m : ℕ} → m ≡ union (get_or seen client 0) own
      → IsSet m (D.Holds (history (store_after g c)) (held c.view_after))
  own-seen b own new q =
      rw q (own-holds g.store (view_before g c) c l.made adds (get_or seen client 0) own (late-holds l b) (subst (λ (x : ℕ). IsSet own (λ t. (t ≡ x) × Writes c)) (sym l.number_is) new))
