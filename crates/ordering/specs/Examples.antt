-- Images of the example traces A to E (01, Traces from the bench) and of the cases that E9 names, with what is shown for each: one table. Assumes
-- nothing.
use Rattle.std.specs.Prelude.{List, [], ◌∷◌, length, get_or}
use Rattle.sets.specs.Set.{Set}
use Rattle.store.specs.Store.{Value, CommitNumber, Client, SessionNumber, Version, Store, no_view}
use Rattle.ordering.specs.Judge.{Shown, order, ring}

pub record Row : Type 0 where
  pub image : Store
  pub shown : Shown

-- ---- how the rows are written

-- what an image says, from the clients and the session numbers of its commits in turn, and the versions of its keys
abbrev pub says : List Client → List SessionNumber → List (List Version) → Store
says clients sessions keys = record {
  keys = length keys;
  versions = λ k. get_or keys k [];
  client_of = λ t. get_or (0 ∷ clients) t 0;
  session_of = λ t. get_or (0 ∷ sessions) t 0;
  view_of = λ t. no_view;
  commits = length clients;
}

-- a version by commit t; the readers 1, 2, 3, 4 are 2, 4, 8, 16 in a set
abbrev pub by : CommitNumber → Value → Set → Version
by t x readers = record { value = x; writer = t; readers = readers }

-- ---- the rows

abbrev pub table : List Row
table =
    -- A: no commits
    record { image = says [] [] ((by 0 0 0 ∷ []) ∷ []); shown = order [] }
    -- B, lost update: each reads version 0 and writes
    ∷ record { image = says (0 ∷ 1 ∷ []) (0 ∷ 0 ∷ []) ((by 0 0 6 ∷ by 1 1 0 ∷ by 2 1 0 ∷ []) ∷ []); shown = ring (2 ∷ 1 ∷ []) }
    -- C, long fork: 3 sees the write of 1 and not that of 2, and 4 the other way round
    ∷ record {
      image = says (0 ∷ 1 ∷ 2 ∷ 3 ∷ []) (0 ∷ 0 ∷ 0 ∷ 0 ∷ []) ((by 0 0 16 ∷ by 1 1 8 ∷ []) ∷ (by 0 0 8 ∷ by 2 1 16 ∷ []) ∷ []);
      shown = ring (3 ∷ 2 ∷ 4 ∷ 1 ∷ []);
    }
    -- D, write skew: each reads both keys and writes one
    ∷ record { image = says (0 ∷ 1 ∷ []) (0 ∷ 0 ∷ []) ((by 0 0 6 ∷ by 1 1 0 ∷ []) ∷ (by 0 0 6 ∷ by 2 1 0 ∷ []) ∷ []); shown = ring (2 ∷ 1 ∷ []) }
    -- E: one writes and the other reads that
    ∷ record { image = says (0 ∷ 1 ∷ []) (0 ∷ 0 ∷ []) ((by 0 0 0 ∷ by 1 1 4 ∷ []) ∷ []); shown = order (1 ∷ 2 ∷ []) }
    -- the same with the numbers exchanged: "commit numbers may be renamed by the order"
    ∷ record { image = says (0 ∷ 1 ∷ []) (0 ∷ 0 ∷ []) ((by 0 0 0 ∷ by 2 1 2 ∷ []) ∷ []); shown = order (2 ∷ 1 ∷ []) }
    -- "a commit reading its own version is a ring of one"
    ∷ record { image = says (0 ∷ []) (0 ∷ []) ((by 0 0 0 ∷ by 1 1 2 ∷ []) ∷ []); shown = ring (1 ∷ []) }
    -- a commit that reads a key and writes it is none
    ∷ record { image = says (0 ∷ []) (0 ∷ []) ((by 0 0 2 ∷ by 1 1 0 ∷ []) ∷ []); shown = order (1 ∷ []) }
    -- "Here SO covers commits without operations too": 2 has a smaller number than 1; when it is placed 1 is ready, and lower than 3
    ∷ record { image = says (0 ∷ 0 ∷ 1 ∷ []) (5 ∷ 3 ∷ 0 ∷ []) ((by 0 0 0 ∷ []) ∷ []); shown = order (2 ∷ 1 ∷ 3 ∷ []) }
    -- 1 reads what 3 wrote, which is later in its session; 2, without operations, stands between them
    ∷ record { image = says (0 ∷ 0 ∷ 0 ∷ []) (0 ∷ 1 ∷ 2 ∷ []) ((by 0 0 0 ∷ by 3 1 2 ∷ []) ∷ []); shown = ring (3 ∷ 1 ∷ []) }
    -- two links that no other row has: 1 overwrites what 2 wrote, and its number is smaller in their session
    ∷ record { image = says (0 ∷ 0 ∷ []) (0 ∷ 1 ∷ []) ((by 0 0 0 ∷ by 2 1 0 ∷ by 1 1 0 ∷ []) ∷ []); shown = ring (2 ∷ 1 ∷ []) }
    ∷ []
