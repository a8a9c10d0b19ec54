-- What an answer says: an order or a ring, and how many commits it has. Assumes nothing.
use Rattle.std.specs.Prelude.{length}
use Rattle.ordering.specs.Judge as Judge
use Rattle.placing.specs.declared.Shown.{Shown}
use Rattle.placing.specs.declared.Shown.TheVariants.{Order, Ring}

-- "the answer gives how many"
abbrev pub shown_as : Judge.Shown → Shown
shown_as (Judge.order xs) = Order (length xs)
shown_as (Judge.ring xs) = Ring (length xs)
