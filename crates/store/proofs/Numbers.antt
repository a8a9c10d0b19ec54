-- Rule 1 by computing (02, E7): "A maker padded his trace with empty commits that all bore number 7." After one such commit number 7 is too small for that
-- client, with operations and without; 8 is not, and another client may have 7. Assumes nothing.
use Prim.Native.Nat.{ℕ}
use mathlib.Core.Path.{◌≡◌, refl}
use mathlib.Core.Bool.{Bool, true, false}
use mathlib.Core.List.{List, [], ◌∷◌}
use Rattle.search.specs.Choose.{choose}
use Rattle.search.specs.Search.{any}
use Rattle.store.specs.Store.{Client, opening_store, opening, write, Operation, Commit, commit}
use Rattle.store.specs.Update.{update, step, final}
use Rattle.store.specs.Refusal.{old_number}

-- a commit that leaves key 0 at its first version
abbrev numbered : Client → ℕ → List Operation → Commit
numbered d n os = record { client = d; session = n; operations = os; view_after = λ k. 1 }

-- whether the number is too small after an empty commit of client 0 with number 7
abbrev too_small : Commit → Bool
too_small c = old_number (final (opening 1) (commit (numbered 0 7 []) ∷ [])).store c

abbrev writing : List Operation
writing = record { access = write; key = 0; value = 1 } ∷ []

pub numbers-asked : (too_small (numbered 0 7 []) ≡ true) × (too_small (numbered 0 7 writing) ≡ true) × (too_small (numbered 0 8 []) ≡ false) × (too_small (numbered 1 7 []) ≡ false)
unfolding choose any opening_store opening update step final old_number
numbers-asked = (refl, refl, refl, refl)
