-- Loops over the keys that are written or read and over the members of a set: what is gathered on the way, and which words have gained a set.
-- Assumes nothing.
use Prim.Native.Nat.{ℕ, zero, suc, ◌+◌, ◌*◌, ◌^◌, ◌≤◌, ◌<◌}
use mathlib.Core.Path.{◌≡◌, refl, sym, ap, ◌∙◌, subst}
use mathlib.Core.Logic.{◌⊎◌, inl, inr, ⊎_elim, ◌↔◌}
use mathlib.Core.List.{List}
use native.Mathlib.Omega.{arith}
use native.Mathlib.Decide.{ℕ_discrete}
use lib.Dec.{T}
use lib.ListN.{length, get_or, set, length-set}
use lib.Seq.{get_or-set_same, get_or-set_other}
use Rattle.search.proofs.Tests.{same, both}
use Rattle.sets.specs.Set.{Set, has, union, Gives}
use Rattle.sets.proofs.Laws.{has-none, has-lt}
use Rattle.sets.proofs.Algebra.{gives_is, gives-left}
use Rattle.store.specs.Limits.{max_keys, numbers}
use Rattle.state.specs.Places.{link_place, lead_place, links_length}
use Rattle.state.specs.Keeps.{IsSet}
use Rattle.state.proofs.Below.{below-passed, below-turn, keys-turn, keys-passed}
use Rattle.paths.specs.Added.{BroughtBelow, Joined, GainsAt, RowsOf, LeadsOf}

-- ---- what the keys that are written bring along

module _ (kind : ℕ) (links : List ℕ) (ranks : Set) where
  abbrev lead : ℕ → Set
  lead k = get_or links (lead_place kind k) 0

  module _ {k q : ℕ} (all : Set) (h : IsSet all (BroughtBelow kind links ranks k)) (l : k ≤ q) (none : (j : ℕ) → k ≤ j → j < q → ¬ T (has ranks (2 * j + 1))) where
    pub brought-turn : T (has ranks (2 * q + 1)) → {i : ℕ} → i ≡ lead_place kind q → {after : Set} → after ≡ union all (get_or links i 0) → IsSet after (BroughtBelow kind links ranks (q + 1))
    brought-turn t e f = keys-turn lead ranks 1 all h l none t (f ∙ ap (λ (i : ℕ). union all (get_or links i 0)) e)

    pub brought-passed : IsSet all (BroughtBelow kind links ranks q)
    brought-passed = keys-passed lead ranks 1 all h l none

-- ---- words that gain a set

pub joined_as : {P Q : ℕ → Set → Type 0} {before after : List ℕ} → ((j : ℕ) (g : Set) → P j g ↔ Q j g) → Joined P before after → Joined Q before after
joined_as e h = record { long = h.long; gains = λ j g q. h.gains j g ((e j g).1 q); stays = λ j n. h.stays j (λ g p. n g ((e j g).0 p)) }

-- one word more
joined-more : {P Q : ℕ → Set → Type 0} {before after : List ℕ} → Joined P before after → (i : ℕ) (gain : Set) → i < length after → ((g : Set) → ¬ P i g)
    → ((j : ℕ) (g : Set) → Q j g ↔ (P j g ⊎ ((j ≡ i) × (g ≡ gain)))) → {word : Set} → word ≡ union (get_or after i 0) gain → Joined Q before (set after i word)
joined-more {P} {Q} {before} {after} h i gain l not is {word} e = record {
  long = length-set after i word ∙ h.long;
  gains = λ j g q. gain-at j g ((is j g).0 q);
  stays = λ j n. get_or-set_other after i j word 0 (λ x. n gain ((is j gain).1 (inr (x, refl)))) ∙ h.stays j (λ g p. n g ((is j g).1 (inl p)));
}
  where
    here : get_or (set after i word) i 0 ≡ union (get_or before i 0) gain
    here = get_or-set_same after i word 0 l ∙ e ∙ ap (λ (x : ℕ). union x gain) (h.stays i not)

    gain-at : (j : ℕ) (g : Set) → P j g ⊎ ((j ≡ i) × (g ≡ gain)) → get_or (set after i word) j 0 ≡ union (get_or before j 0) g
    gain-at j g (inl p) = get_or-set_other after i j word 0 (λ x. not g (subst (λ (y : ℕ). P y g) x p)) ∙ h.gains j g p
    gain-at j g (inr (x, y)) = rw (x, y) here

-- the two words of a number more, one for each kind
joined-both : {P Q : ℕ → Set → Type 0} {before after : List ℕ} → Joined P before after → (place : ℕ → ℕ → ℕ) (first into : Set) (x : ℕ)
    → {i₀ i₁ : ℕ} → i₀ ≡ place 0 x → i₁ ≡ place 1 x → i₀ < i₁ → i₁ < length after → ((kind : ℕ) (g : Set) → ¬ P (place kind x) g)
    → ((j : ℕ) (g : Set) → Q j g ↔ (P j g ⊎ GainsAt place first into x j g))
    → {w₀ w₁ : Set} → w₀ ≡ union (get_or after i₀ 0) first → w₁ ≡ union (get_or (set after i₀ w₀) i₁ 0) into → Joined Q before (set (set after i₀ w₀) i₁ w₁)
joined-both {P} {Q} {before} {after} h place first into x {i₀} {i₁} e₀ e₁ l m not is {w₀} {w₁} f₀ f₁ =
    joined-more (joined-more {Q = One} h i₀ first (omega arith) (λ g p. not 0 g (subst (λ (y : ℕ). P y g) e₀ p)) (λ j g. same) f₀) i₁ into (omega (arith, length-set after i₀ w₀)) other two f₁
  where
    One : ℕ → Set → Type 0
    One j g = P j g ⊎ ((j ≡ i₀) × (g ≡ first))

    other : (g : Set) → ¬ One i₁ g
    other g (inl p) = not 1 g (subst (λ (y : ℕ). P y g) e₁ p)
    other g (inr (e, _)) = absurd (omega arith)

    two : (j : ℕ) (g : Set) → Q j g ↔ (One j g ⊎ ((j ≡ i₁) × (g ≡ into)))
    two j g = both (is j g) (out, back)
      where
        out : P j g ⊎ GainsAt place first into x j g → One j g ⊎ ((j ≡ i₁) × (g ≡ into))
        out (inl p) = inl (inl p)
        out (inr (zero, _, e, f)) = inl (inr (e ∙ sym e₀, f))
        out (inr (suc zero, _, e, f)) = inr (e ∙ sym e₁, f)
        out (inr (suc (suc k), b, _, _)) = absurd (omega arith)

        back : One j g ⊎ ((j ≡ i₁) × (g ≡ into)) → P j g ⊎ GainsAt place first into x j g
        back (inl (inl p)) = inl p
        back (inl (inr (e, f))) = inr (0, omega arith, e ∙ e₀, f)
        back (inr (e, f)) = inr (1, omega arith, e ∙ e₁, f)

-- ---- what the readers of the keys that are read bring along

module _ (ranks first into : Set) where
  abbrev LeadAt : ℕ → Set → ℕ → Type 0
  LeadAt j g k = T (has ranks (2 * k)) × GainsAt lead_place first into k j g

  module _ {k q : ℕ} (l : k ≤ q) (none : (j : ℕ) → k ≤ j → j < q → ¬ T (has ranks (2 * j))) {before after : List ℕ} (h : Joined (LeadsOf ranks k first into) before after) where
    -- a key that is not passed has its own places
    leads-apart : q < max_keys → (kind : ℕ) (g : Set) → ¬ LeadsOf ranks k first into (lead_place kind q) g
    leads-apart m kind g (j, o, (_, (other, _, e, _))) = absurd (omega arith)

    leads-taken : T (has ranks (2 * q)) → (j : ℕ) (g : Set) → LeadsOf ranks (q + 1) first into j g ↔ (LeadsOf ranks k first into j g ⊎ GainsAt lead_place first into q j g)
    leads-taken r j g = both (below-turn (LeadAt j g) l (λ i o p (t, _). none i o p t)) (out, back)
      where
        out : LeadsOf ranks k first into j g ⊎ LeadAt j g q → LeadsOf ranks k first into j g ⊎ GainsAt lead_place first into q j g
        out (inl x) = inl x
        out (inr (_, x)) = inr x

        back : LeadsOf ranks k first into j g ⊎ GainsAt lead_place first into q j g → LeadsOf ranks k first into j g ⊎ LeadAt j g q
        back (inl x) = inl x
        back (inr x) = inr (r, x)

    pub leads-turn : T (has ranks (2 * q)) → q < max_keys → links_length ≤ length after
        → {w₀ w₁ : Set} → w₀ ≡ union (get_or after (2 * numbers + q) 0) first → w₁ ≡ union (get_or (set after (2 * numbers + q) w₀) (2 * numbers + max_keys + q) 0) into
        → Joined (LeadsOf ranks (q + 1) first into) before (set (set after (2 * numbers + q) w₀) (2 * numbers + max_keys + q) w₁)
    leads-turn r m room = joined-both h lead_place first into q (omega arith) (omega arith) (omega arith) (omega arith) (leads-apart m) (leads-taken r)

    pub leads-passed : Joined (LeadsOf ranks q first into) before after
    leads-passed = joined_as (λ j g. below-passed (LeadAt j g) l (λ i o p (t, _). none i o p t)) h

-- ---- the rows of the members of a set, the lowest first

-- the rows of the members that are not left
abbrev pub RowsTaken : Set → Set → Set → Set → ℕ → Set → Type 0
RowsTaken over first into left j g = (t : ℕ) × T (has over t) × (¬ T (has left t)) × GainsAt link_place first into t j g

module _ (over first into : Set) where
  pub rows_all : (j : ℕ) (g : Set) → RowsTaken over first into 0 j g ↔ RowsOf over first into j g
  rows_all j g = (λ (t, o, _, e). (t, o, e), λ (t, o, e). (t, o, has-none t, e))

  module _ (fits : over < 2 ^ 64) {left : Set} (within : (t : ℕ) → T (has left t) → T (has over t)) {t : ℕ} {rest : Set} (given : Gives left t rest) where
    rest-within : (a : ℕ) → T (has rest a) → T (has over a)
    rest-within a h = within a ((gives_is given a).1 (inr h))

    -- a member that is left has its own rows
    rows_apart : (kind : ℕ) (g : Set) → ¬ RowsTaken over first into left (link_place kind t) g
    rows_apart kind g (a, o, n, (other, _, e, _)) =
        let q : t ≡ a = omega (arith, given.bound, has-lt 64 over a fits o) in n (subst (λ (x : ℕ). T (has left x)) q given.held)

    rows_taken : (j : ℕ) (g : Set) → RowsTaken over first into rest j g ↔ (RowsTaken over first into left j g ⊎ GainsAt link_place first into t j g)
    rows_taken j g = (λ (a, o, n, e). out a o n e (ℕ_discrete a t), back)
      where
        out : (a : ℕ) → T (has over a) → ¬ T (has rest a) → GainsAt link_place first into a j g → Dec (a ≡ t) → RowsTaken over first into left j g ⊎ GainsAt link_place first into t j g
        out a o n e (yes q) = inr (subst (λ (x : ℕ). GainsAt link_place first into x j g) q e)
        out a o n e (no q) = inl (a, o, λ l. ⊎_elim q n ((gives_is given a).0 l), e)

        back : RowsTaken over first into left j g ⊎ GainsAt link_place first into t j g → RowsTaken over first into rest j g
        back (inl (a, o, n, e)) = (a, o, λ r. n ((gives_is given a).1 (inr r)), e)
        back (inr e) = (t, within t given.held, λ r. absurd (omega (arith, gives-left given t r)), e)

-- one turn of the loop, by what its calls answer
pub rows-turn : (over first into : Set) → over < 2 ^ 64 → {before after : List ℕ} {left t : ℕ} {rest : Set} → Gives left t rest
    → ((a : ℕ) → T (has left a) → T (has over a)) → Joined (RowsTaken over first into left) before after → 2 * numbers ≤ length after
    → {w₀ w₁ : Set} → w₀ ≡ union (get_or after t 0) first → w₁ ≡ union (get_or (set after t w₀) (numbers + t) 0) into
    → ((a : ℕ) → T (has rest a) → T (has over a)) × Joined (RowsTaken over first into rest) before (set (set after t w₀) (numbers + t) w₁)
rows-turn over first into fits {t = t} given within h room f₀ f₁ = (
  rest-within over first into fits within given,
  joined-both h link_place first into t (omega arith) (omega arith) (omega (arith, given.bound)) (omega (arith, given.bound))
      (rows_apart over first into fits within given) (rows_taken over first into fits within given) f₀ f₁,
)
