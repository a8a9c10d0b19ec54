-- The eight clauses (01, Clauses and levels; clause 2 as 02 amends it, E4; 001's figure of execution tests), each as the versions that it wants.
-- Assumes nothing.
use Rattle.std.specs.Prelude.{ℕ, Bool, true, false, ◌&&◌, ◌||◌}
use Rattle.std.proofs.Math.Option.{Option}
use Rattle.search.specs.Choose.{choose}
use Rattle.search.specs.Search.{any}
use Rattle.relations.specs.Relation.{Relation}
use Rattle.store.specs.Store.{CommitNumber, View, Store, version, next_number, Commit}
use Rattle.store.specs.Update.{writes, update}
use Rattle.store.specs.Missing.{Place, Rule, missing}
use Rattle.store.specs.Links.{wrote, has_read, holds, SO, prefix_links, snapshot_links, one_or_more}
use Rattle.store.specs.Refusal.{all_of}

pub data Clause : Type 0 where
  monotonic_reads read_your_writes monotonic_writes writes_follow_reads update_atomic consistent_prefix snapshot_isolation serialisability : Clause

-- the number of a clause in the table of 01
abbrev pub clause_number : Clause → ℕ
clause_number monotonic_reads = 1
clause_number read_your_writes = 2
clause_number monotonic_writes = 3
clause_number writes_follow_reads = 4
clause_number update_atomic = 5
clause_number consistent_prefix = 6
clause_number snapshot_isolation = 7
clause_number serialisability = 8

-- "if u holds a version by t, versions by any t' with t' R t"
unfoldable pub leading_to : Store → View → Relation → Rule
leading_to s u r k i = any (next_number s) (λ t. holds s u t && r (version s k i).writer t)

-- "if u holds a version by t, each version read by t or by a t' with t' SO t"
unfoldable pub read_before : Store → View → Rule
read_before s u k i =
    any (next_number s) (λ t. holds s u t && (has_read s t k i || any (next_number s) (λ t'. SO s t' t && has_read s t' k i)))

-- "every version written by this commit or by any commit before it in SO", of commit t. "A commit without operations asks nothing": it wrote nothing, and
-- stands in no SO pair.
unfoldable pub session_writes : Store → CommitNumber → Rule
session_writes s t k i = wrote s t k i || SO s (version s k i).writer t

-- what each clause wants of a commit c made on view u of store s
unfoldable pub wants : Store → View → Commit → Clause → Rule
wants s u c monotonic_reads = all_of u
wants s u c read_your_writes = session_writes (update s u c) (next_number s)
wants s u c monotonic_writes = leading_to s u (SO s)
wants s u c writes_follow_reads = read_before s u
wants s u c update_atomic = λ k i. writes c k
wants s u c consistent_prefix = leading_to s u (one_or_more s (prefix_links s))
wants s u c snapshot_isolation = leading_to s u (one_or_more s (snapshot_links s))
wants s u c serialisability = λ k i. true

-- "All clauses but 1 and 2 look at u and the store before the commit."
abbrev pub looks_after : Clause → Bool
looks_after monotonic_reads = true
looks_after read_your_writes = true
looks_after monotonic_writes = false
looks_after writes_follow_reads = false
looks_after update_atomic = false
looks_after consistent_prefix = false
looks_after snapshot_isolation = false
looks_after serialisability = false

-- the first version that a clause wants and the view lacks
unfoldable pub missing_by : Store → View → Commit → Clause → Option Place
missing_by s u c x = missing (choose (looks_after x) (update s u c) s) (wants s u c x) (choose (looks_after x) c.view_after u)
