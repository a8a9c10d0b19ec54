-- A word of 64 bits as a set of numbers below 64: "bit i of a mask stands for version i" (01, The trace file), and
-- "readers u64 with bit c for commit c" (01, The image). Assumes nothing.
use Rattle.std.specs.Prelude.{◌≡◌, ℕ, zero, suc, ◌-◌, ◌/◌, ◌%◌, ◌^◌, ◌<◌, ◌≤◌, Bool, eqb, T}
use Rattle.std.specs.Int.Bits.{bit_and, bit_or, bit_xor}
use Rattle.std.specs.Int.Count.{count_leading_zeros, count_trailing_zeros, ones}
use Rattle.search.specs.Choose.{choose}

-- a set, as the number that its bits make
abbrev pub Set : Type 0
Set = ℕ

-- the width of a word
abbrev pub width : ℕ
width = 64

-- the set holds i
abbrev pub has : Set → ℕ → Bool
has m i = eqb (m / 2 ^ i % 2) 1

-- the set with i in it
abbrev pub insert : ℕ → Set → Set
insert i m = bit_or m (2 ^ i)

-- the set of i alone
abbrev pub single : ℕ → Set
single i = 2 ^ i

-- what either set holds
unfoldable pub union : Set → Set → Set
union a b = bit_or a b

-- what the first set holds and the second does not: the first less what both hold
unfoldable pub without : Set → Set → Set
without a b = bit_xor a (bit_and a b)

-- all numbers below n
abbrev pub below : ℕ → Set
below n = 2 ^ n - 1

-- "the highest set bit of its mask" (01, Store and views)
unfoldable pub highest : Set → ℕ
highest m = 63 - count_leading_zeros 64 m

-- the least number that the set holds
unfoldable pub lowest : Set → ℕ
lowest m = count_trailing_zeros 64 m

-- a set gives its least number, and the others are left
pub record Gives (m : Set) (i : ℕ) (left : Set) : Type 0 where
  pub held : T (has m i)
  pub least : (j : ℕ) → T (has m j) → i ≤ j
  pub bound : i < width
  pub others : left ≡ without m (single i)

-- how many numbers the set holds: "ones count readers" (01, Which shape goes where)
unfoldable pub size : Set → ℕ
size m = ones m

-- the numbers below n that pass a test
unfoldable pub set_of : ℕ → (ℕ → Bool) → Set
set_of zero f = 0
set_of (suc n) f = choose (f n) (insert n (set_of n f)) (set_of n f)
