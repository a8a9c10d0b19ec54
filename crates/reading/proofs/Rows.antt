-- Rows of links that gain links, one row at a time and one part of an image after the other. Assumes nothing.
use Prim.Native.Nat.{ℕ, ◌+◌, ◌^◌, ◌<◌}
use mathlib.Core.Path.{◌≡◌, refl, sym, ap, ◌∙◌, subst}
use mathlib.Core.Logic.{◌⊎◌, inl, inr, ⊎_elim, ◌↔◌}
use mathlib.Core.List.{List}
use native.Mathlib.Omega.{arith}
use native.Mathlib.Decide.{ℕ_discrete, dec_lt}
use lib.Dec.{T}
use lib.ListN.{length, get_or, set, length-set, get_or-eq_default}
use lib.Seq.{get_or-set_same, get_or-set_other}
use Rattle.search.proofs.Tests.{same, or_is}
use Rattle.sets.specs.Set.{Set, has, single, union, Gives}
use Rattle.sets.proofs.Laws.{has-none, single-has, single-only}
use Rattle.sets.proofs.Algebra.{has-union, gives_is, gives-left}
use Rattle.store.specs.Limits.{numbers}
use Rattle.store.specs.Store.{CommitNumber}
use Rattle.ordering.specs.Rows.{links_in}
use Rattle.reading.specs.Gains.{Gains}

-- what either set holds
pub union-is : (m n i : ℕ) → T (has (union m n) i) ↔ (T (has m i) ⊎ T (has n i))
union-is m n i = rw (has-union m n i) (or_is (has m i) (has n i) same same)

-- ---- rows without links

-- the first n rows are empty
abbrev pub Cleared : List Set → ℕ → Type 0
Cleared rows n = (j : ℕ) → j < n → get_or rows j 0 ≡ 0

pub cleared-all : (rows : List Set) → length rows ≡ numbers → Cleared rows numbers → (a c : CommitNumber) → ¬ T (links_in rows a c)
cleared-all rows room h a c t = has-none a (subst (λ (m : ℕ). T (has m a)) (go (dec_lt c numbers)) t)
  where
    go : Dec (c < numbers) → get_or rows c 0 ≡ 0
    go (yes l) = h c l
    go (no n) = get_or-eq_default rows 0 (omega arith)

-- ---- one row

module _ (rows : List Set) (room : length rows ≡ numbers) where
  -- no links more
  pub gains-none : {P : CommitNumber → CommitNumber → Type 0} → ((a c : CommitNumber) → ¬ P a c) → Gains rows rows P
  gains-none {P} h = record { room = room; says = λ a c. (λ t. inl t, λ x. out a c x) }
    where
      out : (a c : CommitNumber) → T (links_in rows a c) ⊎ P a c → T (links_in rows a c)
      out a c (inl t) = t
      out a c (inr p) = absurd (h a c p)

  pub gains-row : (c from word : ℕ) {more : List Set} → c < numbers → word ≡ union (get_or rows c 0) from → more ≡ set rows c word
      → Gains rows more (λ (a b : CommitNumber). (b ≡ c) × T (has from a))
  gains-row c from word {more} l w e = record { room = ap length e ∙ length-set rows c word ∙ room; says = λ a b. go a b (ℕ_discrete b c) }
    where
      Says : CommitNumber → CommitNumber → Type 0
      Says a b = T (links_in more a b) ↔ (T (links_in rows a b) ⊎ ((b ≡ c) × T (has from a)))

      here : (a : CommitNumber) → T (links_in more a c) ↔ (T (links_in rows a c) ⊎ ((c ≡ c) × T (has from a)))
      here a =
          let row : get_or more c 0 ≡ union (get_or rows c 0) from = ap (λ (r : List Set). get_or r c 0) e ∙ get_or-set_same rows c word 0 (omega (arith, room)) ∙ w in
          let is = union-is (get_or rows c 0) from a in
          (λ t. out (is.0 (subst (λ (m : ℕ). T (has m a)) row t)), λ x. subst (λ (m : ℕ). T (has m a)) (sym row) (is.1 (into x)))
        where
          out : T (has (get_or rows c 0) a) ⊎ T (has from a) → T (links_in rows a c) ⊎ ((c ≡ c) × T (has from a))
          out (inl t) = inl t
          out (inr t) = inr (refl, t)

          into : T (links_in rows a c) ⊎ ((c ≡ c) × T (has from a)) → T (has (get_or rows c 0) a) ⊎ T (has from a)
          into (inl t) = inl t
          into (inr x) = inr x.1

      go : (a b : CommitNumber) → Dec (b ≡ c) → Says a b
      go a b (yes q) = subst (λ (x : ℕ). T (links_in more a x) ↔ (T (links_in rows a x) ⊎ ((x ≡ c) × T (has from a)))) (sym q) (here a)
      go a b (no q) =
          let row : get_or more b 0 ≡ get_or rows b 0 = ap (λ (r : List Set). get_or r b 0) e ∙ get_or-set_other rows c b word 0 q in
          (λ t. inl (subst (λ (m : ℕ). T (has m a)) row t), λ x. subst (λ (m : ℕ). T (has m a)) (sym row) (other x))
        where
          other : T (links_in rows a b) ⊎ ((b ≡ c) × T (has from a)) → T (links_in rows a b)
          other (inl t) = t
          other (inr x) = absurd (q x.0)

-- ---- one part after the other

module _ {rows more : List Set} {P : CommitNumber → CommitNumber → Type 0} (g : Gains rows more P) where
  -- the same links in other words
  pub gains-as : {Q : CommitNumber → CommitNumber → Type 0} → ((a c : CommitNumber) → P a c ↔ Q a c) → Gains rows more Q
  gains-as {Q} e = record { room = g.room; says = λ a c. (λ t. out a c ((g.says a c).0 t), λ x. (g.says a c).1 (into a c x)) }
    where
      out : (a c : CommitNumber) → T (links_in rows a c) ⊎ P a c → T (links_in rows a c) ⊎ Q a c
      out a c (inl t) = inl t
      out a c (inr p) = inr ((e a c).0 p)

      into : (a c : CommitNumber) → T (links_in rows a c) ⊎ Q a c → T (links_in rows a c) ⊎ P a c
      into a c (inl t) = inl t
      into a c (inr q) = inr ((e a c).1 q)

  pub gains-then : {last : List Set} {Q : CommitNumber → CommitNumber → Type 0} → Gains more last Q → Gains rows last (λ (a c : CommitNumber). P a c ⊎ Q a c)
  gains-then {last} {Q} f = record { room = f.room; says = λ a c. (λ t. out a c ((f.says a c).0 t), λ x. (f.says a c).1 (into a c x)) }
    where
      All : CommitNumber → CommitNumber → Type 0
      All a c = T (links_in rows a c) ⊎ (P a c ⊎ Q a c)

      first : (a c : CommitNumber) → T (links_in rows a c) ⊎ P a c → All a c
      first a c (inl t) = inl t
      first a c (inr p) = inr (inl p)

      out : (a c : CommitNumber) → T (links_in more a c) ⊎ Q a c → All a c
      out a c (inl t) = first a c ((g.says a c).0 t)
      out a c (inr q) = inr (inr q)

      into : (a c : CommitNumber) → All a c → T (links_in more a c) ⊎ Q a c
      into a c (inl t) = inl ((g.says a c).1 (inl t))
      into a c (inr (inl p)) = inl ((g.says a c).1 (inr p))
      into a c (inr (inr q)) = inr q

-- ---- a row for each reader

-- the readers that are no longer in `left` have their link from the writer
pub record Shared (rows more : List Set) (writer readers left : ℕ) : Type 0 where
  pub within : (i : ℕ) → T (has left i) → T (has readers i)
  pub so_far : Gains rows more (λ (a b : CommitNumber). (a ≡ writer) × (T (has readers b) × (¬ T (has left b))))

pub shared-none : (rows : List Set) (writer readers : ℕ) → length rows ≡ numbers → Shared rows rows writer readers readers
shared-none rows writer readers room = record { within = λ i t. t; so_far = gains-none rows room (λ a b (e, (t, n)). n t) }

module _ {rows more : List Set} {writer readers left : ℕ} (h : Shared rows more writer readers left) where
  pub shared-done : left ≡ 0 → Gains rows more (λ (a b : CommitNumber). (a ≡ writer) × T (has readers b))
  shared-done e = gains-as h.so_far (λ a b. (λ (q, (t, n)). (q, t), λ (q, t). (q, (t, λ x. has-none b (subst (λ (m : ℕ). T (has m b)) e x)))))

  pub shared-more : {last : List Set} {r from rest : ℕ} → Gives left r rest → from ≡ single writer → Gains more last (λ (a b : CommitNumber). (b ≡ r) × T (has from a))
      → Shared rows last writer readers rest
  shared-more {last} {r} {from} {rest} given own g = record {
    within = λ i x. h.within i (still i x);
    so_far = gains-as (gains-then h.so_far g) (λ a b. (out a b, λ x. into a b x (ℕ_discrete b r)));
  }
    where
      still : (i : ℕ) → T (has rest i) → T (has left i)
      still i x = (gives_is given i).1 (inr x)

      gone : ¬ T (has rest r)
      gone x = omega (arith, gives-left given r x)

      Before : ℕ → ℕ → Type 0
      Before a b = (a ≡ writer) × (T (has readers b) × (¬ T (has left b)))

      out : (a b : ℕ) → Before a b ⊎ ((b ≡ r) × T (has from a)) → (a ≡ writer) × (T (has readers b) × (¬ T (has rest b)))
      out a b (inl (q, (t, n))) = (q, (t, λ x. n (still b x)))
      out a b (inr (q, t)) =
          (single-only writer a (subst (λ (m : ℕ). T (has m a)) own t), subst (λ (x : ℕ). T (has readers x) × (¬ T (has rest x))) (sym q) (h.within r given.held, gone))

      into : (a b : ℕ) → (a ≡ writer) × (T (has readers b) × (¬ T (has rest b))) → Dec (b ≡ r) → Before a b ⊎ ((b ≡ r) × T (has from a))
      into a b (q, (t, n)) (yes x) = inr (x, subst (λ (m : ℕ). T (has m a)) (sym own) (subst (λ (y : ℕ). T (has (single writer) y)) (sym q) (single-has writer)))
      into a b (q, (t, n)) (no x) = inl (q, (t, λ y. ⊎_elim x n ((gives_is given b).0 y)))
