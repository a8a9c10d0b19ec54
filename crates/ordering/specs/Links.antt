-- The links between the commits of an image: "SO, WR, WW or RW links" (02, E9; 01, Clauses and levels). Assumes nothing.
use Rattle.std.specs.Prelude.{ℕ, ◌≤◌, ◌<◌, Bool, ◌&&◌, ◌||◌, T, eqb, ltb, leb}
use Rattle.relations.specs.Relation.{Relation}
use Rattle.store.specs.Store.{CommitNumber, Store}
use Rattle.store.specs.Links.{WR, WW, RW, LinkKind, so, wr, ww, rw}

-- one of n commits: they are numbered from 1, and the opening transaction, number 0, is none of them
abbrev pub is_commit : ℕ → CommitNumber → Bool
is_commit n c = ltb 0 c && leb c n

-- "SO: same client, smaller session number to larger" (01); "Here SO covers commits without operations too" (02, E9)
unfoldable pub session_order : Store → Relation
session_order s a b = eqb (s.client_of a) (s.client_of b) && ltb (s.session_of a) (s.session_of b)

-- the pairs of each kind; WR, WW and RW are those of 01
abbrev pub pairs : Store → LinkKind → Relation
pairs s so = session_order s
pairs s wr = WR s
pairs s ww = WW s
pairs s rw = RW s

-- the links of a kind: the pairs of two commits, or of a commit with itself ("a commit reading its own version is a ring of one")
unfoldable pub linked_by : Store → LinkKind → Relation
linked_by s kind a b = (is_commit s.commits a && is_commit s.commits b) && pairs s kind a b

-- the links of all four kinds
unfoldable pub links : Store → Relation
links s a b = linked_by s so a b || (linked_by s wr a b || (linked_by s ww a b || linked_by s rw a b))

-- ---- as facts

abbrev pub IsCommit : ℕ → CommitNumber → Type 0
IsCommit n c = (0 < c) × (c ≤ n)

-- links that lead from one of n commits to one of n commits
abbrev pub Between : ℕ → Relation → Type 0
Between n r = (a b : CommitNumber) → T (r a b) → IsCommit n a × IsCommit n b
