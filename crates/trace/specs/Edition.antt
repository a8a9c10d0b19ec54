-- The two editions of a trace file (02, E6): long, of kinds 2 and 3, and short, of kinds 6 and 5. A trace written in either, "record for
-- record, each 2 as a 6 and each 3 as a 5, or long the other way round". Assumes nothing.
use Rattle.std.specs.Prelude.{ℕ, zero, suc, ◌+◌, Bool, true, ◌&&◌, ◌||◌, not, List, [], ◌∷◌, ◌++◌, eqb, length}
use Rattle.sets.specs.Set.{Set, has, set_of}
use Rattle.endian.specs.Endian.{le_at, le_bytes}
use Rattle.store.specs.Limits.{min_bytes}
use Rattle.store.specs.Store.{Client, View, Configuration, opening, Commit, Event, shift, commit}
use Rattle.store.specs.Update.{step}
use Rattle.trace.specs.Listed.{listed_bytes, touched}
use Rattle.trace.specs.Format.{Trace, short_shift_length, short_commit_length, header_at}
use Rattle.trace.specs.Encode.{operations_bytes, event_bytes, file_of}

pub data Edition : Type 0 where
  long : Edition
  short : Edition

-- ---- a record of the short edition

-- "a written kind 6 lists exactly the keys that change": those of the store at which the two views differ
unfoldable pub changed : ℕ → View → View → Set
changed keys before u = set_of keys (λ k. not (eqb (u k) (before k)))

-- a kind 6 that lists a set of keys
unfoldable pub short_shift_bytes : ℕ → Client → Set → View → List ℕ
short_shift_bytes keys d listed u =
    le_bytes 2 (short_shift_length listed) ++ (le_bytes 2 6 ++ (le_bytes 1 d ++ (le_bytes 1 0 ++ (le_bytes 4 listed ++ listed_bytes keys (has listed) u))))

-- a kind 5
unfoldable pub short_commit_bytes : ℕ → Commit → List ℕ
short_commit_bytes keys c =
    le_bytes 2 (short_commit_length (length c.operations) c.operations)
    ++ (le_bytes 2 5 ++ (le_bytes 1 c.client ++ (le_bytes 1 (length c.operations) ++ (le_bytes 4 c.session
    ++ (operations_bytes c.operations ++ listed_bytes keys (touched c.operations) c.view_after)))))

-- ---- a trace in either edition

-- a record in the configuration that it stands in
unfoldable pub record_bytes : Edition → ℕ → Configuration → Event → List ℕ
record_bytes long keys g e = event_bytes keys e
record_bytes short keys g (shift d u) = short_shift_bytes keys d (changed keys (g.views d) u) u
record_bytes short keys g (commit c) = short_commit_bytes keys c

unfoldable pub records_bytes : Edition → ℕ → Configuration → List Event → List ℕ
records_bytes x keys g [] = []
records_bytes x keys g (e ∷ es) = record_bytes x keys g e ++ records_bytes x keys (step g e) es

unfoldable pub encode_in : Edition → Trace → List ℕ
encode_in x t = file_of t.keys t.clients (length t.events) (records_bytes x t.keys (opening t.keys) t.events)

-- ---- a file of the long edition

-- the records from a place on, of which there are `left`, are of kinds 2 and 3; each ends where its length says
unfoldable pub long_from : List ℕ → ℕ → ℕ → Bool
long_from s zero at = true
long_from s (suc left) at = (eqb (le_at s (at + 2) 2) 2 || eqb (le_at s (at + 2) 2) 3) && long_from s left (at + le_at s at 2)

-- "the long file had only kinds 2 and 3"
abbrev pub only_long : List ℕ → Bool
only_long s = long_from s (header_at s).records min_bytes
