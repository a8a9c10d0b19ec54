-- The links between the commits of a store, each as a test (01, Clauses and levels; 001's figure: SO, WR, WW, RW). Assumes nothing.
use Rattle.std.specs.Prelude.{Bool, true, false, ◌&&◌, ◌||◌, not, eqb, ltb}
use Rattle.search.specs.Search.{any}
use Rattle.sets.specs.Set.{has}
use Rattle.relations.specs.Relation.{Relation, union, then_maybe, plus}
use Rattle.store.specs.Store.{CommitNumber, View, Store, count, version, next_number}
use Rattle.store.specs.Missing.{Rule}

-- commit t wrote version i of key k
abbrev pub wrote : Store → CommitNumber → Rule
wrote s t k i = eqb (version s k i).writer t

-- commit t read version i of key k
abbrev pub has_read : Store → CommitNumber → Rule
has_read s t k i = has (version s k i).readers t

-- some version in the store passes
abbrev pub somewhere : Store → Rule → Bool
somewhere s f = any s.keys (λ k. any (count s k) (λ i. f k i))

-- the commit "appears in the store as writer or reader"
unfoldable pub stored : Store → CommitNumber → Bool
stored s t = somewhere s (λ k i. wrote s t k i || has_read s t k i)

-- the view holds a version by t
unfoldable pub holds : Store → View → CommitNumber → Bool
holds s u t = somewhere s (λ k i. has (u k) i && wrote s t k i)

-- "SO: same client, smaller session number to larger, among commits in the store (so none without operations); the opening
-- transaction is in no SO pair."
unfoldable pub SO : Store → Relation
SO s a b =
    (stored s a && stored s b)
    && ((ltb 0 a && ltb 0 b) && (eqb (s.client_of a) (s.client_of b) && ltb (s.session_of a) (s.session_of b)))

-- "WR: writer to reader of a version."
unfoldable pub WR : Store → Relation
WR s a b = somewhere s (λ k i. wrote s a k i && has_read s b k i)

-- an earlier version of a key by one rule, and a later one by another
abbrev pub earlier_later : Store → Rule → Rule → Bool
earlier_later s f g = somewhere s (λ k j. any j (λ i. f k i && g k j))

-- "WW: writer to writer of a later version of one key."
unfoldable pub WW : Store → Relation
WW s a b = earlier_later s (wrote s a) (wrote s b)

-- "RW: reader of a version to the writer of a later one of that key, unless the same."
unfoldable pub RW : Store → Relation
RW s a b = not (eqb a b) && earlier_later s (has_read s a) (wrote s b)

-- the four kinds of link, and the links of each kind
pub data LinkKind : Type 0 where
  so wr ww rw : LinkKind

abbrev pub linked : Store → LinkKind → Relation
linked s so = SO s
linked s wr = WR s
linked s ww = WW s
linked s rw = RW s

-- "the read-to-overwrite link is RW"
abbrev pub is_rw : LinkKind → Bool
is_rw so = false
is_rw wr = false
is_rw ww = false
is_rw rw = true

-- R;RW? in a store
abbrev pub with_rw : Store → Relation → Relation
with_rw s r = then_maybe (next_number s) r (RW s)

-- clause 6: "SO;RW? or WR;RW? or WW"
unfoldable pub prefix_links : Store → Relation
prefix_links s = union (with_rw s (SO s)) (union (with_rw s (WR s)) (WW s))

-- clause 7: "SO;RW? or WR;RW? or WW;RW?"
unfoldable pub snapshot_links : Store → Relation
snapshot_links s = union (with_rw s (SO s)) (union (with_rw s (WR s)) (with_rw s (WW s)))

-- "'+' means one or more links"
abbrev pub one_or_more : Store → Relation → Relation
one_or_more s r = plus (next_number s) r
