-- Walks of links, for any relations between numbers: how they join, what passes from links to walks, and where a closed walk can be cut.
-- Nothing here knows of stores or of commits. Assumes nothing.
use Prim.Native.Nat.{ℕ}
use mathlib.Core.Logic.{◌⊎◌, inl, inr}
use Rattle.relations.specs.Relation.{Plus, one, more, ThenMaybe, alone, followed}

-- none or more links; a new link stands at the end
pub data Star (R : ℕ → ℕ → Type 0) : ℕ → ℕ → Type 0 where
  stay : {a : ℕ} → Star R a a
  then : {a b c : ℕ} → Star R a b → R b c → Star R a c

-- no closed walk of one or more links
abbrev pub Acyclic : (ℕ → ℕ → Type 0) → Type 0
Acyclic R = (a : ℕ) → ¬ Plus R a a

pub no-links-acyclic : {R : ℕ → ℕ → Type 0} → ((a b : ℕ) → ¬ R a b) → Acyclic R
no-links-acyclic h a (one r) = h _ _ r
no-links-acyclic h a (more r p) = h _ _ r

-- Walks join.
module _ {R : ℕ → ℕ → Type 0} where
  pub plus-append : {a b c : ℕ} → Plus R a b → Plus R b c → Plus R a c
  plus-append (one r) q = more r q
  plus-append (more r p) q = more r (plus-append p q)

  pub star-append : {a b c : ℕ} → Star R a b → Star R b c → Star R a c
  star-append p stay = p
  star-append p (then q r) = then (star-append p q) r

  -- a link in front of none or more links
  pub link-star : {a b c : ℕ} → R a b → Star R b c → Star R a c
  link-star r p = star-append (then stay r) p

  -- none or more links, and one more
  pub star-link : {a b c : ℕ} → Star R a b → R b c → Plus R a c
  star-link stay r = one r
  star-link (then p q) r = plus-append (star-link p q) (one r)

  pub plus-star : {a b : ℕ} → Plus R a b → Star R a b
  plus-star (one r) = then stay r
  plus-star (more r p) = link-star r (plus-star p)

-- A walk of links of one relation is a walk of links of any that contains it.
pub plus-map : {R S : ℕ → ℕ → Type 0} → ((a b : ℕ) → R a b → S a b) → {a b : ℕ} → Plus R a b → Plus S a b
plus-map f (one r) = one (f _ _ r)
plus-map f (more r p) = more (f _ _ r) (plus-map f p)

pub then_maybe-map : {R S Q P : ℕ → ℕ → Type 0} → ((a b : ℕ) → R a b → S a b) → ((a b : ℕ) → Q a b → P a b)
    → {a b : ℕ} → ThenMaybe R Q a b → ThenMaybe S P a b
then_maybe-map f g (alone r) = alone (f _ _ r)
then_maybe-map f g (followed r q) = followed (f _ _ r) (g _ _ q)

-- Where every link starts at a point with N, every link of a closed walk ends at one.
module _ {R : ℕ → ℕ → Type 0} {N : ℕ → Type 0} (starts : (a b : ℕ) → R a b → N a) where
  plus-starts : {a b : ℕ} → Plus R a b → N a
  plus-starts (one r) = starts _ _ r
  plus-starts (more r p) = starts _ _ r

  plus-ends : {a b : ℕ} → Plus R a b → N b → Plus (λ x y. R x y × N y) a b
  plus-ends (one r) n = one (r, n)
  plus-ends (more r p) n = more (r, plus-starts p) (plus-ends p n)

  pub closed-ends : {a : ℕ} → Plus R a a → Plus (λ x y. R x y × N y) a a
  closed-ends p = plus-ends p (plus-starts p)

-- A walk whose every link is one of R, or leads from a point with P to a point with Q, is a walk of R links as a whole;
-- or it has a first such passage and a last one, with R links before and after.
data Cut (R : ℕ → ℕ → Type 0) (P Q : ℕ → Type 0) (a b : ℕ) : Type 0 where
  whole : Plus R a b → Cut R P Q a b
  passes : {x y : ℕ} → Star R a x → P x → Q y → Star R y b → Cut R P Q a b

module _ {R S : ℕ → ℕ → Type 0} {P Q : ℕ → Type 0} (split : (a b : ℕ) → S a b → R a b ⊎ (P a × Q b)) where
  cut-link : {a b : ℕ} → R a b ⊎ (P a × Q b) → Cut R P Q a b
  cut-link (inl r) = whole (one r)
  cut-link (inr h) = passes stay h.0 h.1 stay

  cut-more : {a b c : ℕ} → R a b ⊎ (P a × Q b) → Cut R P Q b c → Cut R P Q a c
  cut-more (inl r) (whole p) = whole (more r p)
  cut-more (inl r) (passes s p q s') = passes (link-star r s) p q s'
  cut-more (inr h) (whole p) = passes stay h.0 h.1 (plus-star p)
  cut-more (inr h) (passes s p q s') = passes stay h.0 q s'

  cut : {a b : ℕ} → Plus S a b → Cut R P Q a b
  cut (one r) = cut-link (split _ _ r)
  cut (more r p) = cut-more (split _ _ r) (cut p)

  -- Such a walk that is closed is a closed walk of R links, or R links lead from a point with Q to a point with P.
  pub cut-ring : {a : ℕ} → Plus S a a → Plus R a a ⊎ ((y : ℕ) × (x : ℕ) × Q y × Star R y x × P x)
  cut-ring {a} p = go (cut p)
    where
      go : Cut R P Q a a → Plus R a a ⊎ ((y : ℕ) × (x : ℕ) × Q y × Star R y x × P x)
      go (whole q) = inl q
      go (passes s px qy s') = inr (_, _, qy, star-append s' s, px)
