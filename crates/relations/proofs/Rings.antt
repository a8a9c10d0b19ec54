-- Rings of links of several kinds, where some kinds are marked by a test. A ring with no two marked links side by side
-- is a closed walk of steps, each an unmarked link and then a marked one or nothing. For any kinds, links and test. Assumes nothing.
use Prim.Native.Nat.{ℕ}
use mathlib.Core.Path.{◌≡◌, refl}
use mathlib.Core.Bool.{Bool, true, false, ◌&&◌, ◌||◌}
use mathlib.Core.List.{List, [], ◌∷◌, ◌++◌}
use lib.Dec.{T}
use Rattle.search.proofs.Tests.{stable, or_right}
use Rattle.relations.specs.Relation.{ThenMaybe, alone, followed, Plus, one, more}
use Rattle.relations.specs.Walk.{Walk, end, link, Ring, side_by_side, side_by_side_in_ring}
use Rattle.relations.proofs.Walks.{Acyclic}

-- a link of some kind that is marked (m is true) or not (m is false)
abbrev pub Marked : {K : Type 0} → (K → Bool) → (K → ℕ → ℕ → Type 0) → Bool → ℕ → ℕ → Type 0
Marked {K} p L m a b = (k : K) × (p k ≡ m) × L k a b

-- an unmarked link, and then a marked one or nothing
abbrev pub MarkedStep : {K : Type 0} → (K → Bool) → (K → ℕ → ℕ → Type 0) → ℕ → ℕ → Type 0
MarkedStep p L = ThenMaybe (Marked p L false) (Marked p L true)

-- "its last link stands beside its first" (01): of three links the first and the last are marked, so two marked ones stand side by side
pub ends-side-by-side : side_by_side_in_ring (λ (marked : Bool). marked) true (false ∷ true ∷ []) ≡ true
ends-side-by-side = refl

-- a walk of one or more links, with their kinds left open
pub walk-plus : {K : Type 0} {L : K → ℕ → ℕ → Type 0} {k : K} {ks : List K} {a b : ℕ} → Walk L (k ∷ ks) a b → Plus (λ x y. (k : K) × L k x y) a b
walk-plus (link l end) = one (_, l)
walk-plus (link l (link l' w)) = more (_, l) (walk-plus (link l' w))

walk-append : {K : Type 0} {L : K → ℕ → ℕ → Type 0} {ks ls : List K} {a b c : ℕ} → Walk L ks a b → Walk L ls b c → Walk L (ks ++ ls) a c
walk-append end w = w
walk-append (link l v) w = link l (walk-append v w)

or_mono : (a b c : Bool) → (T b → T c) → T (a || b) → T (a || c)
or_mono true b c f t = tt
or_mono false b c f t = f t

-- What stands side by side in a row of links does so in a row with more links behind it or one more in front.
module _ {K : Type 0} (p : K → Bool) where
  side_by_side-append : (ks ls : List K) → T (side_by_side p ks) → T (side_by_side p (ks ++ ls))
  side_by_side-append [] ls t = absurd t
  side_by_side-append (k ∷ []) ls t = absurd t
  side_by_side-append (k ∷ (k' ∷ ks)) ls t =
      or_mono (p k && p k') (side_by_side p (k' ∷ ks)) (side_by_side p (k' ∷ (ks ++ ls))) (side_by_side-append (k' ∷ ks) ls) t

  side_by_side-cons : (k k' : K) (ks : List K) → T (side_by_side p (k' ∷ ks)) → T (side_by_side p (k ∷ (k' ∷ ks)))
  side_by_side-cons k k' ks t = or_right (p k && p k') (side_by_side p (k' ∷ ks)) t

  both-marked : (k k' : K) (ks : List K) → p k ≡ true → p k' ≡ true → T (side_by_side p (k ∷ (k' ∷ ks)))
  both-marked k k' ks e e' = rw (e, e') tt

module _ {K : Type 0} (p : K → Bool) (L : K → ℕ → ℕ → Type 0) where
  -- a step so far, by the kind of its last link: an unmarked link, or that and a marked one
  data Open (k : K) (a b : ℕ) : Type 0 where
    unmarked : p k ≡ false → L k a b → Open k a b
    marked : {c : ℕ} → p k ≡ true → Marked p L false a c → L k c b → Open k a b

  close : (k : K) {a b : ℕ} → Open k a b → MarkedStep p L a b
  close k (unmarked e l) = alone (k, e, l)
  close k (marked e d l) = followed d (k, e, l)

  -- A row of links with no two marked ones side by side is a walk of steps: each further link goes on with the step so far, or begins the next.
  steps : {k : K} {ks : List K} {a b c : ℕ} → Open k a b → Walk L ks b c → ¬ T (side_by_side p (k ∷ ks)) → Plus (MarkedStep p L) a c
  steps {k = k} o end h = one (close k o)
  steps {k = k} {a = a} {b = b} {c = c} o (link {k = k'} {ks = ks} {b = d} l w) h =
      go o (p k') refl (λ x o'. steps {k = k'} o' w (λ t. h (side_by_side-cons p k k' ks t)))
    where
      go : Open k a b → (m : Bool) → p k' ≡ m → ((x : ℕ) → Open k' x d → Plus (MarkedStep p L) x c) → Plus (MarkedStep p L) a c
      go o false e rest = more (close k o) (rest b (unmarked e l))
      go (unmarked e l') true e' rest = rest a (marked e' (k, e, l') l)
      go (marked e d l') true e' rest = absurd (h (both-marked p k k' ks e e'))

  -- The same of a ring, by its first link: if that is marked, the walk of steps begins with the second.
  closed-steps : {k : K} {ks : List K} {a b : ℕ} (m : Bool) → p k ≡ m → L k a b → Walk L ks b a
      → ¬ T (side_by_side_in_ring p k ks) → (c : ℕ) × Plus (MarkedStep p L) c c
  closed-steps {k} {ks} {a} false e l w h = (a, steps (unmarked e l) w (λ t. h (side_by_side-append p (k ∷ ks) (k ∷ []) t)))
  closed-steps {k} true e l end h = absurd (h (both-marked p k k [] e e))
  closed-steps {k} {b} true e l (link {k = k'} {ks = ks} l' w) h = go (p k') refl
    where
      go : (m : Bool) → p k' ≡ m → (c : ℕ) × Plus (MarkedStep p L) c c
      go true e' = absurd (h (both-marked p k k' (ks ++ (k ∷ [])) e e'))
      go false e' = (b, steps (unmarked e' l') (walk-append w (link l end)) (λ t. h (side_by_side-cons p k k' (ks ++ (k ∷ [])) t)))

  -- A ring with no two marked links side by side is a closed walk of steps.
  pub ring-steps : {k : K} {ks : List K} {a : ℕ} → Ring L k ks a → ¬ T (side_by_side_in_ring p k ks) → (b : ℕ) × Plus (MarkedStep p L) b b
  ring-steps {k} (link l w) h = closed-steps (p k) refl l w h

  -- So where there is no such walk, every ring has two marked links side by side.
  pub ring-side-by-side : Acyclic (MarkedStep p L) → {k : K} {ks : List K} {a : ℕ} → Ring L k ks a → T (side_by_side_in_ring p k ks)
  ring-side-by-side acyclic {k} {ks} w = stable (side_by_side_in_ring p k ks) λ h. let c = ring-steps w h in acyclic c.0 c.1
