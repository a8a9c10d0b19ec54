-- Sets that have a number in common. Assumes nothing.
use Rattle.std.specs.Prelude.{Bool, not, ◌==◌, bit_and}
use Rattle.sets.specs.Set.{Set}

-- some number is in both sets
unfoldable pub meets : Set → Set → Bool
meets a b = not (bit_and a b == 0)
