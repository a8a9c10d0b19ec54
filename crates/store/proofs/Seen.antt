-- "The mill always asks which commit wrote it" (02, E13). What is named with code 13 is a version that the view holds, and no newer one, with the commit that wrote
-- it; and, by computing, the commit is neither the reader nor the writer of a version that the view does not hold. Assumes nothing.
use Prim.Native.Nat.{ℕ, ◌^◌, ◌≤◌, ◌<◌}
use mathlib.Core.Path.{◌≡◌, refl}
use mathlib.Core.Option.{Option, some}
use mathlib.Core.List.{[], ◌∷◌}
use native.Mathlib.Omega.{arith}
use lib.Count.{count_leading_zeros}
use lib.Dec.{T, eqb}
use lib.Pow.{pow_pos}
use Rattle.search.specs.Choose.{choose, is_some, map_some, when, or_else, first_some}
use Rattle.search.specs.Search.{any, least}
use Rattle.sets.specs.Set.{has, highest}
use Rattle.sets.proofs.Laws.{has-large, has-highest, highest-most}
use Rattle.store.specs.Store.{Key, VersionNumber, CommitNumber, Client, Value, View, Store, opening_store, opening, read, write, Event, shift, commit}
use Rattle.store.specs.Update.{newest_visible, value_of, note_read, append, update, step, final}
use Rattle.store.specs.History.{Wrote}
use Rattle.store.specs.View.{IsView}
use Rattle.store.specs.Refusal.{Refusal, old_number, differs, wrong_read, refuses_event}

-- ---- what a read sees

module _ (s : Store) (u : View) (v : IsView s u) (k : Key) (l : k < s.keys) where
  some-held : 0 < u k
  some-held = let b : 2 ^ 0 ≤ u k = has-large (u k) 0 (v.opened k l) in omega (arith, pow_pos 0)

  -- the view holds it
  pub visible-held : T (has (u k) (newest_visible s u k).version)
  visible-held = has-highest (u k) some-held (v.word k)

  -- and no newer one
  pub visible-newest : (i : VersionNumber) → T (has (u k) i) → i ≤ (newest_visible s u k).version
  visible-newest i h = highest-most (u k) some-held (v.word k) i h

  -- its writer wrote it
  pub visible-wrote : Wrote s (newest_visible s u k).writer k (newest_visible s u k).version
  visible-wrote = (v.exist k (newest_visible s u k).version visible-held, refl)

-- ---- by computing: commit 1 writes key 1, commits 2 and 3 write key 0, each from a view that holds version 0 alone

abbrev puts : Client → Key → Value → Event
puts d k x = commit (record { client = d; session = 0; operations = record { access = write; key = k; value = x } ∷ []; view_after = λ q. 1 })

-- commit 4, by a client whose view of key 0 has this mask, reads 9 there; it is record 5
abbrev reads-nine : ℕ → Option Refusal
reads-nine m =
    refuses_event 5 (final (opening 2) (puts 0 1 5 ∷ puts 1 0 6 ∷ puts 2 0 7 ∷ shift 3 (λ q. choose (eqb q 0) m 1) ∷ []))
    (commit (record { client = 3; session = 0; operations = record { access = read; key = 0; value = 9 } ∷ []; view_after = λ q. 1 }))

abbrev names : VersionNumber → CommitNumber → Option Refusal
names i t = some (record { code = 13; at_record = 5; key = 0; version = i; writer = t })

-- version 0 is the opening transaction's, versions 1 and 2 are those of commits 2 and 3
pub writers-asked : (reads-nine 1 ≡ names 0 0) × (reads-nine 3 ≡ names 1 2) × (reads-nine 5 ≡ names 2 3) × (reads-nine 7 ≡ names 2 3)
unfolding count_leading_zeros highest choose is_some map_some when or_else first_some any least opening_store opening value_of note_read append update step final old_number differs wrong_read refuses_event
writers-asked = (refl, refl, refl, refl)
