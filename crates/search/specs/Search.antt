-- Searches and counts among the numbers below a bound. Assumes nothing.
use Rattle.std.specs.Prelude.{ℕ, zero, suc, ◌+◌, Bool, false, ◌||◌}
use Rattle.std.proofs.Math.Option.{Option, none}
use Rattle.search.specs.Choose.{choose, or_else, when}

-- some number below n passes
unfoldable pub any : ℕ → (ℕ → Bool) → Bool
any zero f = false
any (suc n) f = f n || any n f

-- the least number below n that passes
unfoldable pub least : ℕ → (ℕ → Bool) → Option ℕ
least zero f = none
least (suc n) f = or_else (least n f) (when (f n) n)

-- how many numbers below n pass
unfoldable pub how_many : ℕ → (ℕ → Bool) → ℕ
how_many zero f = 0
how_many (suc n) f = choose (f n) 1 0 + how_many n f
