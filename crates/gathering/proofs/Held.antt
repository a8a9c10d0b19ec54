-- A pass over the versions of a key, and over the keys: the writers of the versions that masks hold. Assumes nothing.
use Prim.Native.Nat.{ℕ, ◌+◌, ◌*◌, ◌<◌}
use mathlib.Core.Path.{◌≡◌, refl, sym, ap, ◌∙◌, subst}
use mathlib.Core.Logic.{◌⊎◌, inl, inr}
use mathlib.Core.List.{List}
use native.Mathlib.Omega.{arith}
use native.Mathlib.Decide.{ℕ_discrete}
use lib.Dec.{T}
use Rattle.sets.specs.Set.{Set, has, insert, union}
use Rattle.sets.proofs.Laws.{insert-has, has-insert, insert-self}
use Rattle.endian.specs.Endian.{le_at}
use Rattle.store.specs.Reading.{key_place}
use Rattle.reading.specs.Parts.{writer_at}
use Rattle.reading.specs.Gains.{versions_in}
use Rattle.reading.proofs.Rows.{union-is}
use Rattle.gathering.specs.Places.{Gathers, WroteHeld, WroteSeen}

-- ---- the versions of a key

module _ (b : List ℕ) (base : ℕ) (mask : Set) where
  -- version i is held
  pub held_more : (i : ℕ) {found writer more : ℕ} → T (has mask i) → writer ≡ writer_at b base i → more ≡ insert writer found
      → Gathers found (WroteHeld b base i mask) → Gathers more (WroteHeld b base (i + 1) mask)
  held_more i {found} {writer} {more} t w e h = record {
    says = λ a. (λ x. out a (insert-has writer found a (rw e at x)), λ (j, l, y, q). subst (λ (m : ℕ). T (has m a)) (sym e) (into a j l y q (ℕ_discrete j i)));
  }
    where
      out : (a : ℕ) → T (has found a) ⊎ (a ≡ writer) → WroteHeld b base (i + 1) mask a
      out a (inl x) = let (j, l, y, q) = (h.says a).0 x in (j, omega arith, y, q)
      out a (inr q) = (i, omega arith, t, q ∙ w)

      into : (a j : ℕ) → j < i + 1 → T (has mask j) → a ≡ writer_at b base j → Dec (j ≡ i) → T (has (insert writer found) a)
      into a j l y q (yes z) = subst (λ (m : ℕ). T (has (insert writer found) m)) (w ∙ ap (writer_at b base) (sym z) ∙ sym q) (insert-self writer found)
      into a j l y q (no z) = has-insert writer found a ((h.says a).1 (j, omega arith, y, q))

  -- it is not
  pub held-skip : (i : ℕ) {found more : ℕ} → ¬ T (has mask i) → more ≡ found → Gathers found (WroteHeld b base i mask) → Gathers more (WroteHeld b base (i + 1) mask)
  held-skip i {found} n e h = rw e (record { says = λ a. (λ x. let (j, l, y, q) = (h.says a).0 x in (j, omega arith, y, q), λ (j, l, y, q). into a j l y q (ℕ_discrete j i)) })
    where
      into : (a j : ℕ) → j < i + 1 → T (has mask j) → a ≡ writer_at b base j → Dec (j ≡ i) → T (has found a)
      into a j l y q (yes z) = absurd (n (subst (λ (m : ℕ). T (has mask m)) z y))
      into a j l y q (no z) = (h.says a).1 (j, omega arith, y, q)

-- ---- the keys

module _ (b : List ℕ) (masks : ℕ) where
  pub seen_more : (k : ℕ) {at count mask found here more : ℕ} → at ≡ key_place b k → count ≡ le_at b at 4 → mask ≡ le_at b (masks + 8 * k) 8 → more ≡ union found here
      → Gathers found (WroteSeen b masks k) → Gathers here (WroteHeld b (at + 4) count mask) → Gathers more (WroteSeen b masks (k + 1))
  seen_more k {at} {count} {mask} {found} {here} {more} p c m e h g = record {
    says = λ a. (
      λ x. out a ((union-is found here a).0 (rw e at x)),
      λ (j, l, y). subst (λ (s : ℕ). T (has s a)) (sym e) ((union-is found here a).1 (into a j l y (ℕ_discrete j k))),
    );
  }
    where
      At : ℕ → ℕ → Type 0
      At a j = WroteHeld b (key_place b j + 4) (versions_in b j) (le_at b (masks + 8 * j) 8) a

      there : (a : ℕ) → WroteHeld b (at + 4) count mask a ≡ At a k
      there a = rw (c, m, p) refl

      out : (a : ℕ) → T (has found a) ⊎ T (has here a) → WroteSeen b masks (k + 1) a
      out a (inl x) = let (j, l, y) = (h.says a).0 x in (j, omega arith, y)
      out a (inr x) = (k, omega arith, rw there at ((g.says a).0 x))

      into : (a j : ℕ) → j < k + 1 → At a j → Dec (j ≡ k) → T (has found a) ⊎ T (has here a)
      into a j l y (yes z) = inr ((g.says a).1 (rw there (subst (At a) z y)))
      into a j l y (no z) = inl ((h.says a).1 (j, omega arith, y))
