-- Walks of links that have a kind, and rings. Assumes nothing.
use Rattle.std.specs.Prelude.{ℕ, Bool, false, ◌&&◌, ◌||◌, List, [], ◌∷◌, ◌++◌}

-- a walk from one number to another, with the kinds of its links in order
pub data Walk {K : Type 0} (L : K → ℕ → ℕ → Type 0) : List K → ℕ → ℕ → Type 0 where
  end : {a : ℕ} → Walk L [] a a
  link : {k : K} {ks : List K} {a b c : ℕ} → L k a b → Walk L ks b c → Walk L (k ∷ ks) a c

-- "A ring is a closed walk of one or more links" (01, Clauses and levels)
abbrev pub Ring : {K : Type 0} → (K → ℕ → ℕ → Type 0) → K → List K → ℕ → Type 0
Ring L k ks a = Walk L (k ∷ ks) a a

-- "Two links stand side by side if one follows directly on the other": two links of the kind in a row of links
abbrev pub side_by_side : {K : Type 0} → (K → Bool) → List K → Bool
side_by_side p [] = false
side_by_side p (k ∷ []) = false
side_by_side p (k ∷ (k' ∷ ks)) = (p k && p k') || side_by_side p (k' ∷ ks)

-- the same in a ring: "its last link stands beside its first"
abbrev pub side_by_side_in_ring : {K : Type 0} → (K → Bool) → K → List K → Bool
side_by_side_in_ring p k ks = side_by_side p ((k ∷ ks) ++ (k ∷ []))
