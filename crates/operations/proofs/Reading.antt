-- The version that a read sees: what the arrays say of it, and when the read is wrong. Assumes nothing.
use Rattle.std.proofs.Common.{◌≡◌, ℕ, ◌+◌, ◌*◌, ◌<◌, ◌≤◌, Bool, true, false, not, ◌&&◌, T, eqb, ◌≢◌, ◌↔◌, List, get_or, sym, refl, ap, subst, arith}
use mathlib.Core.Option.{some, none}
use native.Mathlib.Decide.{ℕ_discrete, dec_lt}
use Rattle.search.specs.Choose.{map_some, when}
use Rattle.search.proofs.Tests.{and_is, not_is, eq_is, same}
use Rattle.search.proofs.Search.{least-found, least-none}
use Rattle.sets.specs.Set.{has}
use Rattle.store.specs.Store.{Key, Value, View, Store, count, version, Commit}
use Rattle.store.specs.Update.{newest, Visible, newest_visible}
use Rattle.store.specs.Refusal.{differs, wrong_at, wrong_read}
use Rattle.store.proofs.Seen.{visible-wrote}
use Rattle.state.specs.Places.{head_place, packed}
use Rattle.state.specs.Lookup.{visible_in}
use Rattle.state.proofs.Lookup.{visible-is}
use Rattle.operations.specs.Given.{Given}

-- ---- a writer above a value

-- ---- a value that may have been read

differs-when : (b : Bool) (x : Value) (v : Visible) → differs (when b x) v ≡ (b && not (eqb x v.value))
unfolding differs when
differs-when true x v = refl
differs-when false x v = refl

-- ---- the version that is seen

module _ {s : Store} {u : View} {c : Commit} {versions views : List ℕ} {base : ℕ} {values : List ℕ} {ranks n : ℕ}
    (g : Given s u c versions views base values ranks n) where
  module _ (k : Key) (l : k < n) where
    -- the version that is seen is there
    pub seen-exists : newest u k < count s k
    seen-exists = (visible-wrote s u g.view k (omega (arith, g.keys-are))).0

    -- where the head of that version stands, the code looks up what the read sees
    pub seen-is : (a : List ℕ) → get_or a (head_place k (newest u k)) 0 ≡ packed (version s k (newest u k)).value (version s k (newest u k)).writer
        → visible_in a (get_or views (base + k) 0) k ≡ newest_visible s u k
    seen-is a e = visible-is s g.sound (omega (arith, g.room-left)) u k seen-exists a e (g.in-versions.value-fits k (newest u k) seen-exists) (g.row k l)

    -- ---- wrong reads

    wrong-is : wrong_at s u c k ≡ (has ranks (2 * k) && not (eqb (get_or values (2 * k) 0) (newest_visible s u k).value))
    wrong-is = rw (g.operations.reads k) (differs-when (has ranks (2 * k)) (get_or values (2 * k) 0) (newest_visible s u k))

    pub wrong-unread : ¬ T (has ranks (2 * k)) → ¬ T (wrong_at s u c k)
    wrong-unread n t = n ((and_is (has ranks (2 * k)) _ same same).0 (subst T wrong-is t)).0

    module _ {v : Visible} (sees : v ≡ newest_visible s u k) where
      pub wrong-means : T (has ranks (2 * k)) → T (wrong_at s u c k) ↔ (get_or values (2 * k) 0 ≢ v.value)
      wrong-means t =
          let x = get_or values (2 * k) 0 in
          let y = (newest_visible s u k).value in
          let w = rw (← wrong-is) at (and_is (has ranks (2 * k)) (not (eqb x y)) same (not_is (eqb x y) (eq_is x y))) in
          rw sees (λ r. (w.0 r).1, λ n. w.1 (t, n))

      -- the first wrong read
      pub wrong-found : ((q : Key) → q < k → ¬ T (wrong_at s u c q)) → T (wrong_at s u c k) → some (record { key = k; sees = v }) ≡ wrong_read s u c
      unfolding wrong_read map_some
      wrong-found before here =
          rw sees
          (sym (ap (map_some (λ q. record { key = q; sees = newest_visible s u q }))
          (least-found s.keys (wrong_at s u c) k (omega (arith, g.keys-are)) here before)))

  -- keys that are not read are not read wrongly
  pub wrong-skip : (k q : ℕ) → q ≤ n → ((j : ℕ) → k ≤ j → j < q → ¬ T (has ranks (2 * j))) → ((j : Key) → j < k → ¬ T (wrong_at s u c j)) → (j : Key) → j < q → ¬ T (wrong_at s u c j)
  wrong-skip k q small gap h j l = go (dec_lt j k)
    where
      go : Dec (j < k) → ¬ T (wrong_at s u c j)
      go (yes x) = h j x
      go (no x) = wrong-unread j (omega arith) (gap j (omega arith) l)

  -- one key more
  pub wrong-one : (q : ℕ) → ((j : Key) → j < q → ¬ T (wrong_at s u c j)) → ¬ T (wrong_at s u c q) → (j : Key) → j < q + 1 → ¬ T (wrong_at s u c j)
  wrong-one q h n j l = go (ℕ_discrete j q)
    where
      go : Dec (j ≡ q) → ¬ T (wrong_at s u c j)
      go (yes e) = subst (λ (i : ℕ). ¬ T (wrong_at s u c i)) (sym e) n
      go (no x) = h j (omega arith)

  pub wrong-none : ((q : Key) → q < n → ¬ T (wrong_at s u c q)) → none ≡ wrong_read s u c
  unfolding wrong_read map_some
  wrong-none h =
      sym (ap (map_some (λ q. record { key = q; sees = newest_visible s u q })) ((least-none s.keys (wrong_at s u c)).1 (λ q l. h q (omega (arith, g.keys-are)))))
