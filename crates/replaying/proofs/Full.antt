-- The masks of a full view: those of the opening store, and how a commit's replay changes them. Assumes nothing.
use Prim.Native.Nat.{ℕ, suc, ◌+◌, ◌*◌, ◌^◌, ◌≤◌, ◌<◌}
use mathlib.Core.Path.{◌≡◌, sym, ap, ◌∙◌, subst}
use mathlib.Core.Bool.{not}
use mathlib.Core.List.{List, [], ◌∷◌}
use native.Mathlib.Omega.{arith}
use native.Mathlib.Nat.{pow-suc, zero-add}
use lib.Dec.{T, ltb, lt→ltb}
use lib.ListN.{length, get_or, replicate, get_or-replicate}
use lib.Pow.{pow_mono, pow_pos}
use Rattle.search.specs.Choose.{is_some, when}
use Rattle.search.proofs.Choose.{choose_yes, choose-ind, is_some-when}
use Rattle.search.proofs.Tests.{same, not_is}
use Rattle.sets.specs.Set.{Set, has, below}
use Rattle.sets.proofs.Laws.{below-small}
use Rattle.store.specs.Limits.{max_keys, max_commits}
use Rattle.store.specs.Store.{Key, Value, Version, View, Store, Configuration, opening_version, opening_store, opening, count, write, Commit, commit}
use Rattle.store.specs.Update.{value_of, writes, update, view_before, step, final}
use Rattle.store.proofs.Updated.{count-update, count-written, count-unwritten}
use Rattle.answer.specs.Replay.{full_view, full_shift, full_commit, replay_step}
use Rattle.state.specs.Rows.{RowAt}
use Rattle.replaying.specs.Full.{Full, grown_mask}

-- all numbers below n, and n itself: twice as many and one
below_suc : (n : ℕ) → below (suc n) ≡ 2 * below n + 1
below_suc n = let p = pow-suc 2 n in let q = pow_pos n in omega arith

module _ (s : Store) (n : ℕ) (masks : List ℕ) (f : Full s n masks) where
  -- the mask of a key holds all its versions
  mask_is : (k : Key) → k < n → get_or masks k 0 ≡ below (count s k)
  mask_is k l = ap (λ (i : ℕ). get_or masks i 0) (sym (zero-add k)) ∙ f.row k l

  -- where there is room for a version more, a mask can be doubled
  pub small_mask : s.commits < max_commits → (k : Key) → k < n → get_or masks k 0 < 2 ^ 63
  small_mask room k l =
      let m : 2 ^ count s k ≤ 2 ^ 63 = pow_mono {j = 63} (omega (arith, f.few k)) in
      omega (arith, mask_is k l, below-small (count s k))

-- the opening store has one version of each key
pub full-opening : (n : ℕ) → n ≤ max_keys → Full (opening n).store n (replicate max_keys 1)
unfolding opening opening_store
full-opening n few = record {
  row = λ k l. ap (λ (i : ℕ). get_or (replicate max_keys 1) i 0) (zero-add k) ∙ get_or-replicate max_keys k 1 0 (omega arith)
      ∙ ap (λ (vs : List Version). below (length vs)) (sym (choose_yes (ltb k n) (opening_version ∷ []) [] (lt→ltb _ _ l)));
  few = λ k. choose-ind (λ (vs : List Version). length vs ≤ 1) (ltb k n) (opening_version ∷ []) [] (λ t. omega arith) (λ t. omega arith);
}

-- ---- a commit

module _ (r : Configuration) (c : Commit) where
  -- the view that its replay is made on, and the store after
  abbrev seen : View
  seen = view_before (step r (full_shift r c)) (full_commit r c)

  abbrev made : Store
  made = (final r (replay_step r (commit c))).store

  module _ (n : ℕ) (masks : List ℕ) (f : Full r.store n masks) (ranks : Set) (values : ℕ → Value)
      (sorted : (k : Key) → value_of write c.operations k ≡ when (has ranks (2 * k + 1)) (values k))
      (after : List ℕ) (grown : (k : Key) → k < n → get_or after k 0 ≡ grown_mask ranks k (get_or masks k 0)) where
    -- the commit writes the keys whose ranks say so
    written : (k : Key) → writes c k ≡ has ranks (2 * k + 1)
    written k = ap is_some (sorted k) ∙ is_some-when (has ranks (2 * k + 1)) (values k)

    -- a key that was written has a version more
    mask-after : (k : Key) → k < n → get_or after k 0 ≡ full_view made k
    unfolding replay_step final step update
    mask-after k l = grown k l ∙ choose-ind (λ (m : ℕ). m ≡ full_view made k) (has ranks (2 * k + 1)) _ _ yes-written not_written
      where
        yes-written : T (has ranks (2 * k + 1)) → 2 * get_or masks k 0 + 1 ≡ full_view made k
        yes-written t =
            ap (λ (m : ℕ). 2 * m + 1) (mask_is r.store n masks f k l) ∙ sym (below_suc (count r.store k))
            ∙ ap below (sym (count-written r.store seen (full_commit r c) k (subst T (sym (written k)) t)))

        not_written : T (not (has ranks (2 * k + 1))) → get_or masks k 0 ≡ full_view made k
        not_written t =
            mask_is r.store n masks f k l
            ∙ ap below (sym (count-unwritten r.store seen (full_commit r c) k (λ w. (not_is (has ranks (2 * k + 1)) same).0 t (subst T (written k) w))))

    -- the masks are those of the full view after
    pub full-after : Full made n after
    unfolding replay_step final step update
    full-after = record {
      row = λ k l. ap (λ (i : ℕ). get_or after i 0) (zero-add k) ∙ mask-after k l;
      few = λ k. let one = count-update r.store seen (full_commit r c) k in omega (arith, f.few k);
    }

    -- which is the view after that the replay writes
    pub row_written : RowAt n after 0 (full_commit r c).view_after
    unfolding replay_step final step update
    row_written = full-after.row
