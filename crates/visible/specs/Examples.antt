-- "Not claimed: that visibility is transitive under CC, which is false for versions seen and not read" (02, E14): a trace that shows it, example M.
-- Assumes nothing.
use Rattle.std.specs.Prelude.{ℕ, List, [], ◌∷◌, get_or}
use Rattle.sets.specs.Set.{Set}
use Rattle.store.specs.Store.{Client, View, read, write, Operation, Event, shift, commit}
use Rattle.trace.specs.Format.{Trace}

abbrev masks : List ℕ → View
masks ms k = get_or ms k 0

abbrev commits : Client → Operation → List ℕ → Event
commits d o after = commit (record { client = d; session = 0; operations = o ∷ []; view_after = masks after })

-- client 0 writes key 0; client 1 sees that and, without reading it, writes key 1; client 2 sees client 1's version alone and reads it
abbrev pub seen_not_read : Trace
seen_not_read = record {
  keys = 2;
  clients = 3;
  events =
      commits 0 (record { access = write; key = 0; value = 1 }) (3 ∷ 1 ∷ []) ∷ shift 1 (masks (3 ∷ 1 ∷ []))
      ∷ commits 1 (record { access = write; key = 1; value = 1 }) (3 ∷ 3 ∷ []) ∷ shift 2 (masks (1 ∷ 3 ∷ []))
      ∷ commits 2 (record { access = read; key = 1; value = 1 }) (1 ∷ 3 ∷ []) ∷ [];
}

-- its rows: commit 1 is visible to 2, and 2 to 3, but not 1 to 3
abbrev pub seen_not_read_rows : List Set
seen_not_read_rows = 0 ∷ 2 ∷ 4 ∷ []
