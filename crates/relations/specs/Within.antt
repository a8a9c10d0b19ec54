-- Who leads to a member of a set within n links: "The commits that lead to t within n links come from those for n less one, by trying every
-- commit as the next link" (02, E10). For any links and any set; proofs/Within.antt shows that n links are enough among n numbers. Assumes nothing.
use Rattle.std.specs.Prelude.{ℕ, zero, suc, Bool, false, ◌&&◌, ◌||◌, ◌⊎◌}
use Rattle.search.specs.Search.{any}
use Rattle.relations.specs.Relation.{Relation}

-- nobody within no links; within one more, those within n, and whoever has a link to a member of the set or to one of these
unfoldable pub Within : (ℕ → ℕ → Type 0) → (ℕ → Type 0) → ℕ → ℕ → Type 0
Within R S zero a = ⊥
Within R S (suc n) a = Within R S n a ⊎ ((b : ℕ) × R a b × (S b ⊎ Within R S n b))

-- the same as a test, where every number below m is tried as the next
unfoldable pub within : ℕ → Relation → (ℕ → Bool) → ℕ → ℕ → Bool
within m r set zero a = false
within m r set (suc n) a = within m r set n a || any m (λ b. r a b && (set b || within m r set n b))
