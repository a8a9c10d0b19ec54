-- A pass over the versions of a key, and over the keys, for WR, WW and RW. Assumes nothing.
use Prim.Native.Nat.{ℕ, ◌+◌, ◌<◌}
use mathlib.Core.Path.{◌≡◌, sym, ap, ◌∙◌, subst}
use mathlib.Core.Logic.{◌⊎◌, inl, inr, ◌↔◌, ◌≢◌}
use mathlib.Core.List.{List}
use native.Mathlib.Omega.{arith}
use native.Mathlib.Decide.{ℕ_discrete}
use lib.Dec.{T}
use Rattle.sets.specs.Set.{Set, has, single, union, without}
use Rattle.sets.proofs.Laws.{single-has, single-only}
use Rattle.sets.proofs.Algebra.{without_is}
use Rattle.endian.specs.Endian.{le_at}
use Rattle.store.specs.Store.{CommitNumber}
use Rattle.store.specs.Reading.{key_place}
use Rattle.reading.specs.Parts.{writer_at, readers_at}
use Rattle.reading.specs.Gains.{Gains, Earlier, VersionLinks, KeyLinks, versions_in}
use Rattle.reading.proofs.Rows.{union-is, gains-as, gains-then}

-- ---- the versions of a key

module _ (b : List ℕ) (base : ℕ) where
  pub earlier_more : (i m : ℕ) {readers writer n k : ℕ} → 0 < i → readers ≡ readers_at b base i → writer ≡ writer_at b base i → n ≡ union m readers → k ≡ union n (single writer)
      → ((a : ℕ) → T (has m a) ↔ Earlier b base i a) → (a : ℕ) → T (has k a) ↔ Earlier b base (i + 1) a
  earlier_more i m {readers} {writer} {n} {k} p r w e f h a = (λ t. out ((union-is n (single writer) a).0 (rw f at t)), λ (j, l, x). subst (λ (y : ℕ). T (has y a)) (sym f) (into j l x (ℕ_discrete j i)))
    where
      first : T (has m a) ⊎ T (has readers a) → Earlier b base (i + 1) a
      first (inl t) = let (j, l, x) = (h a).0 t in (j, omega arith, x)
      first (inr t) = (i, omega arith, inl (subst (λ (x : ℕ). T (has x a)) r t))

      out : T (has n a) ⊎ T (has (single writer) a) → Earlier b base (i + 1) a
      out (inl t) = first ((union-is m readers a).0 (subst (λ (x : ℕ). T (has x a)) e t))
      out (inr t) = (i, omega arith, inr (p, single-only writer a t ∙ w))

      low : T (has m a) ⊎ T (has readers a) → T (has (union n (single writer)) a)
      low x = (union-is n (single writer) a).1 (inl (subst (λ (y : ℕ). T (has y a)) (sym e) ((union-is m readers a).1 x)))

      last : T (has (readers_at b base i) a) ⊎ ((0 < i) × (a ≡ writer_at b base i)) → T (has (union n (single writer)) a)
      last (inl t) = low (inr (subst (λ (x : ℕ). T (has x a)) (sym r) t))
      last (inr (q, z)) = (union-is n (single writer) a).1 (inr (subst (λ (x : ℕ). T (has (single writer) x)) (w ∙ sym z) (single-has writer)))

      into : (j : ℕ) → j < i + 1 → T (has (readers_at b base j) a) ⊎ ((0 < j) × (a ≡ writer_at b base j)) → Dec (j ≡ i) → T (has (union n (single writer)) a)
      into j l x (yes q) = last (subst (λ (y : ℕ). T (has (readers_at b base y) a) ⊎ ((0 < y) × (a ≡ writer_at b base y))) q x)
      into j l x (no q) = low (inl ((h a).1 (j, omega arith, x)))

  pub links-more : (i m : ℕ) {readers writer own from : ℕ} {rows more next last : List Set} → 0 < i → readers ≡ readers_at b base i → writer ≡ writer_at b base i
      → own ≡ single writer → from ≡ without m own → ((a : ℕ) → T (has m a) ↔ Earlier b base i a) → Gains rows more (KeyLinks b base i)
      → Gains more next (λ (a c : CommitNumber). (c ≡ writer) × T (has from a)) → Gains next last (λ (a c : CommitNumber). (a ≡ writer) × T (has readers c))
      → Gains rows last (KeyLinks b base (i + 1))
  links-more i m {readers} {writer} {own} {from} p r w o f h g x y = gains-as (gains-then (gains-then g x) y) (λ a c. (out a c, λ (j, q, l, z). into a c j q l z (ℕ_discrete j i)))
    where
      From : ℕ → ℕ → Type 0
      From a c = (c ≡ writer) × T (has from a)

      To : ℕ → ℕ → Type 0
      To a c = (a ≡ writer) × T (has readers c)

      from_is : (a : ℕ) → T (has from a) ↔ ((a ≢ writer_at b base i) × Earlier b base i a)
      from_is a = (λ t. out_of ((of-from a).0 t), λ (n, t). (of-from a).1 ((h a).1 t, λ z. n (single-only writer a z ∙ w)))
        where
          of-from : (a : ℕ) → T (has from a) ↔ (T (has m a) × (¬ T (has (single writer) a)))
          of-from a = rw (f, o) (without_is m (single writer) a)

          out_of : T (has m a) × (¬ T (has (single writer) a)) → (a ≢ writer_at b base i) × Earlier b base i a
          out_of (t, n) = ((λ q. n (subst (λ (z : ℕ). T (has (single writer) z)) (w ∙ sym q) (single-has writer))), (h a).0 t)

      out : (a c : ℕ) → (KeyLinks b base i a c ⊎ From a c) ⊎ To a c → KeyLinks b base (i + 1) a c
      out a c (inl (inl (j, q, l, z))) = (j, q, omega arith, z)
      out a c (inl (inr (q, t))) = let y = (from_is a).0 t in (i, p, omega arith, inl (q ∙ w, y.0, y.1))
      out a c (inr (q, t)) = (i, p, omega arith, inr (q ∙ w, subst (λ (z : ℕ). T (has z c)) r t))

      here : (a c : ℕ) → VersionLinks b base i a c → (KeyLinks b base i a c ⊎ From a c) ⊎ To a c
      here a c (inl (q, n, t)) = inl (inr (q ∙ sym w, (from_is a).1 (n, t)))
      here a c (inr (q, t)) = inr (q ∙ sym w, subst (λ (z : ℕ). T (has z c)) (sym r) t)

      into : (a c j : ℕ) → 0 < j → j < i + 1 → VersionLinks b base j a c → Dec (j ≡ i) → (KeyLinks b base i a c ⊎ From a c) ⊎ To a c
      into a c j q l z (yes e) = here a c (subst (λ (k : ℕ). VersionLinks b base k a c) e z)
      into a c j q l z (no e) = inl (inl (j, q, omega arith, z))

-- ---- the keys

-- the links of the keys before key n
abbrev pub KeysLinks : List ℕ → ℕ → CommitNumber → CommitNumber → Type 0
KeysLinks b n a c = (k : ℕ) × (k < n) × KeyLinks b (key_place b k + 4) (versions_in b k) a c

pub keys-more : (b : List ℕ) (k : ℕ) {at count : ℕ} {rows more last : List Set} → at ≡ key_place b k → count ≡ le_at b at 4
    → Gains rows more (KeysLinks b k) → Gains more last (KeyLinks b (at + 4) count) → Gains rows last (KeysLinks b (k + 1))
keys-more b k {at} {count} e n g h = gains-as (gains-then g h) (λ a c. (out a c, λ (j, l, x). into a c j l x (ℕ_discrete j k)))
  where
    versions : count ≡ versions_in b k
    versions = n ∙ ap (λ (p : ℕ). le_at b p 4) e

    Here : ℕ → ℕ → Type 0
    Here a c = KeyLinks b (at + 4) count a c

    out : (a c : ℕ) → KeysLinks b k a c ⊎ Here a c → KeysLinks b (k + 1) a c
    out a c (inl (j, l, x)) = (j, omega arith, x)
    out a c (inr x) = (k, omega arith, subst (λ (z : ℕ). KeyLinks b (z + 4) (versions_in b k) a c) e (subst (λ (z : ℕ). KeyLinks b (at + 4) z a c) versions x))

    into : (a c j : ℕ) → j < k + 1 → KeyLinks b (key_place b j + 4) (versions_in b j) a c → Dec (j ≡ k) → KeysLinks b k a c ⊎ Here a c
    into a c j l x (yes q) =
        let y : KeyLinks b (key_place b k + 4) (versions_in b k) a c = subst (λ (z : ℕ). KeyLinks b (key_place b z + 4) (versions_in b z) a c) q x in
        inr (subst (λ (z : ℕ). KeyLinks b (at + 4) z a c) (sym versions) (subst (λ (z : ℕ). KeyLinks b (z + 4) (versions_in b k) a c) (sym e) y))
    into a c j l x (no q) = inl (j, omega arith, x)
