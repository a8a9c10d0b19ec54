-- What the absence of closed walks says of rings: for links of any kinds, with a test for the kinds that are RW. Assumes nothing.
use Prim.Native.Nat.{ℕ}
use mathlib.Core.Path.{subst}
use mathlib.Core.Bool.{Bool, true, false}
use mathlib.Core.Logic.{inl, inr}
use mathlib.Core.List.{List}
use lib.Dec.{T}
use Rattle.relations.specs.Walk.{Ring, side_by_side_in_ring}
use Rattle.relations.proofs.Walks.{Acyclic, plus-map, then_maybe-map}
use Rattle.relations.proofs.Rings.{Marked, walk-plus, ring-side-by-side}
use Rattle.dependencies.specs.History.{History, RW, PlainLink, Dependency, SnapshotStep}

-- a link that is RW, or one that is not
abbrev pub LinkThat : History → Bool → ℕ → ℕ → Type 0
LinkThat H true = RW H
LinkThat H false = PlainLink H

module _ (H : History) where
  dependency : {a b : ℕ} (m : Bool) → LinkThat H m a b → Dependency H a b
  dependency true r = inr r
  dependency false d = inl d

  -- links L of kinds K, each a link of the history; p says which kinds are RW
  module _ {K : Type 0} (p : K → Bool) (L : K → ℕ → ℕ → Type 0) (means : (k : K) (a b : ℕ) → L k a b → LinkThat H (p k) a b) where
    marked-that : (m : Bool) (a b : ℕ) → Marked p L m a b → LinkThat H m a b
    marked-that m a b (k, e, l) = subst (λ (x : Bool). LinkThat H x a b) e (means k a b l)

    -- no closed walk of clause 7's steps: every ring has two RW links side by side
    pub rings-have-RW-side-by-side : Acyclic (SnapshotStep H) → {k : K} {ks : List K} {a : ℕ} → Ring L k ks a → T (side_by_side_in_ring p k ks)
    rings-have-RW-side-by-side h = ring-side-by-side p L (λ a w. h a (plus-map (λ x y. then_maybe-map (marked-that false) (marked-that true)) w))

    -- no closed walk of any links: there is no ring
    pub no-rings : Acyclic (Dependency H) → {k : K} {ks : List K} {a : ℕ} → ¬ Ring L k ks a
    no-rings h w = h _ (plus-map (λ x y l. dependency (p l.0) (means l.0 x y l.1)) (walk-plus w))
