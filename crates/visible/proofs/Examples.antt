-- Visibility is not transitive, even where CC accepts, and SI: by computation on example M. Assumes nothing.
use mathlib.Core.Path.{◌≡◌, refl}
use mathlib.Core.Option.{none}
use mathlib.Core.List.{[], ◌∷◌, map}
use lib.Count.{count_leading_zeros}
use Rattle.search.specs.Choose.{choose, need, is_some, map_some, when, or_else, first_some}
use Rattle.search.specs.Search.{any, least}
use Rattle.sets.specs.Set.{highest, set_of}
use Rattle.endian.specs.Endian.{pieces}
use Rattle.relations.specs.Relation.{union, compose, then_maybe, plus}
use Rattle.store.specs.Store.{opening_store, opening}
use Rattle.store.specs.Update.{value_of, note_read, append, update, step, final, first_along}
use Rattle.store.specs.Missing.{at_key, missing}
use Rattle.store.specs.Links.{stored, holds, SO, WR, WW, RW, prefix_links, snapshot_links}
use Rattle.store.specs.Refusal.{old_number, differs, wrong_read, bad_mask, half_held, lost, stray, refuses_event}
use Rattle.levels.specs.Clause.{leading_to, read_before, session_writes, wants, missing_by}
use Rattle.levels.specs.Level.{Level, MR, MW, RYW, WFR, CC, UA, PSI, CP, SI, fails_clauses, fails_event, first_failure}
use Rattle.answer.specs.Answer.{final_store, meaningless, verdict}
use Rattle.visible.specs.Visible.{visible, rows}
use Rattle.visible.specs.Examples.{seen_not_read, seen_not_read_rows}

-- none of codes 9 to 14 is due, and the nine levels but SER accept
pub not-read-accepted :
    (meaningless seen_not_read ≡ none)
    × (map (λ (l : Level). verdict l seen_not_read) (MR ∷ MW ∷ RYW ∷ WFR ∷ CC ∷ UA ∷ PSI ∷ CP ∷ SI ∷ []) ≡ none ∷ none ∷ none ∷ none ∷ none ∷ none ∷ none ∷ none ∷ none ∷ [])
unfolding count_leading_zeros choose need is_some map_some when or_else first_some any least highest union compose then_maybe plus opening_store opening value_of note_read append update step final first_along at_key missing stored holds SO WR WW RW prefix_links snapshot_links old_number differs wrong_read bad_mask half_held lost stray refuses_event leading_to read_before session_writes wants missing_by fails_clauses fails_event first_failure
not-read-accepted = (refl, refl)

pub not-transitive : rows (final_store seen_not_read) ≡ seen_not_read_rows
unfolding count_leading_zeros choose is_some any highest set_of pieces opening_store opening value_of note_read append update step final holds visible rows
not-transitive = refl
