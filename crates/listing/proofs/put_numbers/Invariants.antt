-- `listing::put_numbers` meets its contract: after i turns the first i numbers stand in the buffer. Assumes nothing.
use Prim.Native.Nat.{◌+◌, ◌*◌, ◌≤◌}
use lib.ListN.{take}
use Rattle.text.specs.Put.{Put}
use Rattle.listing.specs.Line.{numbers_text, longest_number}
use Rattle.listing.proofs.put_numbers.Given as goal

abbrev pub invariant-loop-commit : goal.invariant-loop-commit
invariant-loop-commit l = (l.to ≤ l.at + longest_number * l.commit-index) × Put l.initial.out l.at (numbers_text (take l.commit-index l.commit-items)) l.out l.to
