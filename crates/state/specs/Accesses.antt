-- The operations of a commit are known by rank: twice the key for a read (access 0), one more for a write (access 1). A loop over those of
-- one access goes over a set of even numbers, twice the key each, and takes out the least at each turn. Assumes nothing.
use Rattle.std.specs.Prelude.{ℕ, zero, suc, ◌+◌, ◌*◌, ◌^◌, ◌≤◌, ◌<◌, ◌≡◌, T}
use Rattle.sets.specs.Set.{Set, has}

-- the rank of an operation, by its access and key
abbrev pub rank : ℕ → ℕ → ℕ
rank zero k = 2 * k
rank (suc a) k = 2 * k + 1

-- the set holds twice each key from k on, below n, that has an operation of this access
pub record Left (ranks : Set) (access n k : ℕ) (left : Set) : Type 0 where
  pub word : left < 2 ^ 64
  pub only : (i : ℕ) → T (has left i) → (q : ℕ) × (i ≡ 2 * q) × (k ≤ q) × (q < n) × T (has ranks (rank access q))
  pub all : (q : ℕ) → k ≤ q → q < n → T (has ranks (rank access q)) → T (has left (2 * q))
