-- One link of clause 6 or 7 to a member of a set, and within one link more. Assumes nothing.
use Prim.Native.Nat.{ℕ, zero, suc, ◌-◌, ◌<◌}
use mathlib.Core.Path.{◌≡◌, refl, subst}
use mathlib.Core.Logic.{◌⊎◌, inl, inr, ⊎_elim, ◌↔◌}
use native.Mathlib.Omega.{arith}
use lib.Dec.{T}
use Rattle.search.proofs.Tests.{same, both}
use Rattle.sets.specs.Set.{Set, has, union}
use Rattle.sets.proofs.Laws.{has-none}
use Rattle.relations.specs.Relation.{ThenMaybe, alone, followed}
use Rattle.relations.specs.Within.{Within}
use Rattle.relations.proofs.Within.{within_more, within_none}
use Rattle.dependencies.specs.History.{History, StoredBelow, SO, WR, RW, PlainLink, by-SO, by-WR, by-WW}
use Rattle.state.specs.Keeps.{IsSet}
use Rattle.state.proofs.Sets.{is_set-as, is_set-none, is_set-union}
use Rattle.trying.specs.Tries.{LinksTo, to-session, to-reader, to-writer, to-overwriter, StepOf, StepsTo}
use Rattle.trying.proofs.Linked.{all-tried}

module _ (H : History) (most : ℕ) (below : StoredBelow most H) (near found : Set)
    (is_found : IsSet found (λ a. (a < most) × LinksTo H (record { session = 0; reader = 0; writer = 0; overwriter = near }) a)) {wide : Set} (e : wide ≡ union near found) where
  abbrev Overwrites : ℕ → Type 0
  Overwrites t = (b : ℕ) × RW H t b × T (has near b)

  wide_is : IsSet wide (λ t. T (has near t) ⊎ Overwrites t)
  wide_is = rw e (is_set-union near found (λ t. same) (is_set-as found (λ t. (out t, λ (b, l, x). to-overwriter x l)) (all-tried H most below _ found is_found)))
    where
      out : (t : ℕ) → LinksTo H (record { session = 0; reader = 0; writer = 0; overwriter = near }) t → Overwrites t
      out t (to-session {b} x l) = absurd (has-none b x)
      out t (to-reader {b} x l) = absurd (has-none b x)
      out t (to-writer {b} x l) = absurd (has-none b x)
      out t (to-overwriter {b} x l) = (b, l, x)

  -- R;RW? to a member, where R leads to one of the wider set
  maybe-out : {R : ℕ → ℕ → Type 0} (a b : ℕ) → R a b → T (has wide b) → (c : ℕ) × ThenMaybe R (RW H) a c × T (has near c)
  maybe-out a b l x = ⊎_elim (λ y. (b, alone l, y)) (λ (c, q, y). (c, followed l q, y)) ((wide_is b).0 x)

  maybe_back : {R : ℕ → ℕ → Type 0} (a c : ℕ) → ThenMaybe R (RW H) a c → T (has near c) → (b : ℕ) × R a b × T (has wide b)
  maybe_back a c (alone l) y = (c, l, (wide_is c).1 (inl y))
  maybe_back a c (followed {b = b} l q) y = (b, l, (wide_is b).1 (inr (c, q, y)))

  abbrev Steps : Set → ℕ → Type 0
  Steps last = LinksTo H (record { session = wide; reader = wide; writer = last; overwriter = 0 })

  prefix-steps : (a : ℕ) → Steps near a ↔ StepsTo 0 H near a
  prefix-steps a = (out, λ (c, l, y). back c l y)
    where
      out : Steps near a → StepsTo 0 H near a
      out (to-session {b} x l) = let (c, s, y) = maybe-out {R = SO H} a b l x in (c, inl s, y)
      out (to-reader {b} x l) = let (c, s, y) = maybe-out {R = WR H} a b l x in (c, inr (inl s), y)
      out (to-writer {b} x l) = (b, inr (inr l), x)
      out (to-overwriter {b} x l) = absurd (has-none b x)

      back : (c : ℕ) → StepOf 0 H a c → T (has near c) → Steps near a
      back c (inl s) y = let (b, l, x) = maybe_back a c s y in to-session x l
      back c (inr (inl s)) y = let (b, l, x) = maybe_back a c s y in to-reader x l
      back c (inr (inr l)) y = to-writer y l

  snapshot-steps : (kind a : ℕ) → Steps wide a ↔ StepsTo (suc kind) H near a
  snapshot-steps kind a = (out, λ (c, s, y). let (b, l, x) = maybe_back a c s y in back b l x)
    where
      out : Steps wide a → StepsTo (suc kind) H near a
      out (to-session {b} x l) = maybe-out {R = PlainLink H} a b (by-SO l) x
      out (to-reader {b} x l) = maybe-out {R = PlainLink H} a b (by-WR l) x
      out (to-writer {b} x l) = maybe-out {R = PlainLink H} a b (by-WW l) x
      out (to-overwriter {b} x l) = absurd (has-none b x)

      back : (b : ℕ) → PlainLink H a b → T (has wide b) → Steps wide a
      back b (by-SO l) x = to-session x l
      back b (by-WR l) x = to-reader x l
      back b (by-WW l) x = to-writer x l

  pub round_is : (kind last r : ℕ) → (kind ≡ 0 → last ≡ near) × ((¬ (kind ≡ 0)) → last ≡ wide) → IsSet r (λ a. (a < most) × Steps last a) → IsSet r (StepsTo kind H near)
  round_is zero last r d is = is_set-as r prefix-steps (subst (λ (m : Set). IsSet r (Steps m)) (d.0 refl) (all-tried H most below _ r is))
  round_is (suc kind) last r d is = is_set-as r (snapshot-steps kind) (subst (λ (m : Set). IsSet r (Steps m)) (d.1 (λ z. omega arith)) (all-tried H most below _ r is))

-- ---- within one link more

module _ (R : ℕ → ℕ → Type 0) (target : Set) where
  abbrev Target : ℕ → Type 0
  Target t = T (has target t)

  pub none_within : IsSet 0 (Within R Target 0)
  none_within = is_set-none (λ a. within_none R Target a)

  pub more_within : (n found near stepped : Set) {r : Set} → IsSet found (Within R Target n) → near ≡ union target found → IsSet stepped (λ a. (b : ℕ) × R a b × T (has near b))
      → r ≡ union found stepped → IsSet r (Within R Target (suc n))
  more_within n found near stepped is e step d = rw d (is_set-as (union found stepped) (λ a. both (out a, back a) (let (x, y) = within_more R Target n a in (y, x))) (is_set-union found stepped is step))
    where
      near-is : IsSet near (λ t. Target t ⊎ Within R Target n t)
      near-is = rw e (is_set-union target found (λ t. same) is)

      out : (a : ℕ) → Within R Target n a ⊎ ((b : ℕ) × R a b × T (has near b)) → Within R Target n a ⊎ ((b : ℕ) × R a b × (Target b ⊎ Within R Target n b))
      out a (inl x) = inl x
      out a (inr (b, l, x)) = inr (b, l, (near-is b).0 x)

      back : (a : ℕ) → Within R Target n a ⊎ ((b : ℕ) × R a b × (Target b ⊎ Within R Target n b)) → Within R Target n a ⊎ ((b : ℕ) × R a b × T (has near b))
      back a (inl x) = inl x
      back a (inr (b, l, x)) = inr (b, l, (near-is b).1 x)

  -- the same, where the number is one more than another
  pub one-more-within : (n m found near stepped : Set) {r : Set} → ¬ (n ≡ 0) → m ≡ n - 1 → IsSet found (Within R Target m) → near ≡ union target found
      → IsSet stepped (λ a. (b : ℕ) × R a b × T (has near b)) → r ≡ union found stepped → IsSet r (Within R Target n)
  one-more-within n m found near stepped {r} some e is x step y =
      let z : suc m ≡ n = omega arith in subst (λ (l : ℕ). IsSet r (Within R Target l)) z (more_within m found near stepped is x step y)
