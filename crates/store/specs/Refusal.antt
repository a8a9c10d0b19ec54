-- "Bench codes" (01): what a refusal answers, and codes 9 to 14, which are about the meaning of a record. Assumes nothing.
use Rattle.std.specs.Prelude.{ℕ, Bool, false, ◌&&◌, ◌||◌, not, [], ◌∷◌, eqb, ltb, leb}
use Rattle.std.proofs.Math.Option.{Option, some, none}
use Rattle.search.specs.Choose.{map_some, when, first_some}
use Rattle.search.specs.Search.{any, least}
use Rattle.sets.specs.Set.{has, width}
use Rattle.store.specs.Store.{Key, VersionNumber, CommitNumber, Value, View, Store, Configuration, count, version, next_number, read, Commit, Event, shift, commit}
use Rattle.store.specs.Update.{value_of, touches, Visible, newest_visible, view_before, store_after}
use Rattle.store.specs.Missing.{Place, Rule, missing}
use Rattle.store.specs.Links.{holds}

-- "A refusal returns number, record, key, version (0 where not named)"; "code 13 gains the writer's commit number" (02, E13)
pub record Refusal : Type 0 where
  pub code : ℕ
  pub at_record : ℕ
  pub key : Key
  pub version : VersionNumber
  pub writer : CommitNumber

-- refusals that name their record alone, a key, or a key and a version
abbrev pub refuse : ℕ → ℕ → Refusal
refuse code n = record { code = code; at_record = n; key = 0; version = 0; writer = 0 }

abbrev pub refuse_key : ℕ → ℕ → Key → Refusal
refuse_key code n k = record { code = code; at_record = n; key = k; version = 0; writer = 0 }

abbrev pub refuse_place : ℕ → ℕ → Place → Refusal
refuse_place code n p = record { code = code; at_record = n; key = p.key; version = p.version; writer = 0 }

-- a key that is read, and what the read sees
pub record Sighting : Type 0 where
  pub key : Key
  pub sees : Visible

-- code 13, which alone names a writer: "least key, version read", and "which commit wrote it" (02, E13)
abbrev pub refuse_read : ℕ → Sighting → Refusal
refuse_read n r = record { code = 13; at_record = n; key = r.key; version = r.sees.version; writer = r.sees.writer }

-- ---- rule 1, as 02 amends it (E7): its number is above "every earlier number of that client in the trace, operations or none"

-- commit t is an earlier one of its client, and the number is not above that of t
abbrev pub not_above : Store → Commit → CommitNumber → Bool
not_above s c t = ltb 0 t && (eqb (s.client_of t) c.client && leb c.session (s.session_of t))

-- code 9: "session number too small"
unfoldable pub old_number : Store → Commit → Bool
old_number s c = any (next_number s) (not_above s c)

-- ---- rule 2: "Each read's value is that of the newest version that u holds of its key."

-- the value that was read is not that of the version that the read sees
unfoldable pub differs : Option Value → Visible → Bool
differs none v = false
differs (some x) v = not (eqb x v.value)

abbrev pub wrong_at : Store → View → Commit → Key → Bool
wrong_at s u c k = differs (value_of read c.operations k) (newest_visible s u k)

-- code 13: "read value differs", "least key, version read"
unfoldable pub wrong_read : Store → View → Commit → Option Sighting
wrong_read s u c = map_some (λ k. record { key = k; sees = newest_visible s u k }) (least s.keys (wrong_at s u c))

-- ---- "A view holds version 0 of each key, only versions that exist, and all versions of a writer if it holds one."

abbrev pub bad_mask_at : Store → View → Key → Bool
bad_mask_at s u k = not (has (u k) 0) || any width (λ i. has (u k) i && leb (count s k) i)

-- code 10: "mask lacks version 0 or holds one that does not exist", "least key"
unfoldable pub bad_mask : Store → View → Option Key
bad_mask s u = least s.keys (bad_mask_at s u)

-- the rule of code 11: every version of a writer of which the view holds one
abbrev pub whole_writers : Store → View → Rule
whole_writers s u k i = holds s u (version s k i).writer

-- code 11: "some but not all of a writer", "least missing key, version"
unfoldable pub half_held : Store → View → Option Place
half_held s u = missing s (whole_writers s u) u

-- ---- a shift: "replaces a client's view by one that holds at least as much at every key; an equal one is allowed"

-- the rule of code 12 and of clause 1: every version of a view
abbrev pub all_of : View → Rule
all_of u k i = has (u k) i

-- code 12: "shift loses a version", "least key, version"
unfoldable pub lost : Store → View → View → Option Place
lost s old u = missing s (all_of old) u

-- ---- rule 4: "The view after, u', is a view of the new store, and differs from u only at keys with an operation."

abbrev pub stray_at : View → Commit → Key → Bool
stray_at u c k = not (touches c k) && not (eqb (c.view_after k) (u k))

-- code 14: "view changes at a key without operation", "least key"
unfoldable pub stray : Store → View → Commit → Option Key
stray s u c = least s.keys (stray_at u c)

-- "Order: .. meaning over all records (commit: 9, 13, 10, 11, 14; shift: 10, 11, 12)"
unfoldable pub refuses_event : ℕ → Configuration → Event → Option Refusal
refuses_event n g (shift d u) =
    first_some
    (map_some (refuse_key 10 n) (bad_mask g.store u)
    ∷ map_some (refuse_place 11 n) (half_held g.store u)
    ∷ map_some (refuse_place 12 n) (lost g.store (g.views d) u)
    ∷ [])
refuses_event n g (commit c) =
    first_some
    (when (old_number g.store c) (refuse 9 n)
    ∷ map_some (refuse_read n) (wrong_read g.store (view_before g c) c)
    ∷ map_some (refuse_key 10 n) (bad_mask (store_after g c) c.view_after)
    ∷ map_some (refuse_place 11 n) (half_held (store_after g c) c.view_after)
    ∷ map_some (refuse_key 14 n) (stray g.store (view_before g c) c)
    ∷ [])
