-- Clause 2 by computing (02, E4). A client writes key 0, then reads it and ends with {0}, as in trace L: its next commit is asked for the version that
-- it wrote, unless that commit has no operations. Assumes nothing.
use Prim.Native.Nat.{ℕ}
use mathlib.Core.Path.{◌≡◌, refl}
use mathlib.Core.Option.{Option, some, none}
use mathlib.Core.List.{List, [], ◌∷◌}
use lib.Count.{count_leading_zeros}
use Rattle.search.specs.Choose.{choose, is_some, map_some, when, or_else}
use Rattle.search.specs.Search.{any, least}
use Rattle.sets.specs.Set.{Set, highest}
use Rattle.store.specs.Store.{Value, opening_store, opening, Access, read, write, Operation, Commit, commit}
use Rattle.store.specs.Update.{value_of, note_read, append, update, step, final}
use Rattle.store.specs.Missing.{Place, at_key, missing}
use Rattle.store.specs.Links.{stored, SO}
use Rattle.levels.specs.Clause.{read_your_writes, session_writes, wants, missing_by}

-- commit n of client 0, and the mask of key 0 that it ends with
abbrev made : ℕ → List Operation → Set → Commit
made n os m = record { client = 0; session = n; operations = os; view_after = λ k. m }

-- one operation, at key 0
abbrev operation : Access → Value → List Operation
operation a x = record { access = a; key = 0; value = x } ∷ []

-- the version that clause 2 asks of the third commit
abbrev asked : List Operation → Option Place
asked os =
    let g = final (opening 1) (commit (made 0 (operation write 1) 3) ∷ commit (made 1 (operation read 1) 1) ∷ []) in
    missing_by g.store (g.views 0) (made 2 os 1) read_your_writes

pub session-asked : (asked [] ≡ none) × (asked (operation read 0) ≡ some (record { key = 0; version = 1 }))
unfolding count_leading_zeros choose is_some map_some when or_else any least highest opening_store opening value_of note_read append update step final at_key missing stored SO session_writes wants missing_by
session-asked = (refl, refl)
