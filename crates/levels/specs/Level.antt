-- The ten levels, and the first commit that fails one (01, Clauses and levels; demand 2). Assumes nothing.
use Rattle.std.specs.Prelude.{ℕ, List, [], ◌∷◌}
use Rattle.std.proofs.Math.Option.{Option, none}
use Rattle.search.specs.Choose.{map_some, or_else}
use Rattle.store.specs.Store.{Key, VersionNumber, CommitNumber, View, Store, Configuration, next_number, Commit, Event, shift, commit}
use Rattle.store.specs.Update.{view_before, first_along}
use Rattle.store.specs.Missing.{Place}
use Rattle.levels.specs.Clause.{Clause, monotonic_reads, read_your_writes, monotonic_writes, writes_follow_reads, update_atomic, consistent_prefix, snapshot_isolation, serialisability, missing_by}

pub data Level : Type 0 where
  MR MW RYW WFR CC UA PSI CP SI SER : Level

-- "Levels in report order"
abbrev pub levels : List Level
levels = MR ∷ MW ∷ RYW ∷ WFR ∷ CC ∷ UA ∷ PSI ∷ CP ∷ SI ∷ SER ∷ []

-- "with their clauses: MR 1; MW 3; RYW 2; WFR 4; CC 1 2 3 4; UA 5; PSI 1 2 3 4 5; CP 1 2 6; SI 1 2 5 7; SER 8", lowest first
abbrev pub clauses_of : Level → List Clause
clauses_of MR = monotonic_reads ∷ []
clauses_of MW = monotonic_writes ∷ []
clauses_of RYW = read_your_writes ∷ []
clauses_of WFR = writes_follow_reads ∷ []
clauses_of CC = monotonic_reads ∷ read_your_writes ∷ monotonic_writes ∷ writes_follow_reads ∷ []
clauses_of UA = update_atomic ∷ []
clauses_of PSI = monotonic_reads ∷ read_your_writes ∷ monotonic_writes ∷ writes_follow_reads ∷ update_atomic ∷ []
clauses_of CP = monotonic_reads ∷ read_your_writes ∷ consistent_prefix ∷ []
clauses_of SI = monotonic_reads ∷ read_your_writes ∷ update_atomic ∷ snapshot_isolation ∷ []
clauses_of SER = serialisability ∷ []

-- a failure: the commit's number and record, the clause, and the version that is missing
pub record Failure : Type 0 where
  pub commit : CommitNumber
  pub at_record : ℕ
  pub clause : Clause
  pub key : Key
  pub version : VersionNumber

abbrev pub failure : CommitNumber → ℕ → Clause → Place → Failure
failure t n x p = record { commit = t; at_record = n; clause = x; key = p.key; version = p.version }

-- "A commit fails a level at its lowest failing clause"
unfoldable pub fails_clauses : ℕ → Store → View → Commit → List Clause → Option Failure
fails_clauses n s u c [] = none
fails_clauses n s u c (x ∷ xs) = let rest = fails_clauses n s u c xs in or_else (map_some (failure (next_number s) n x) (missing_by s u c x)) rest

-- record n at a level; a shift fails none
unfoldable pub fails_event : Level → ℕ → Configuration → Event → Option Failure
fails_event l n g (shift d u) = none
fails_event l n g (commit c) = fails_clauses n g.store (view_before g c) c (clauses_of l)

-- "A level keeps its first failure. The store goes on regardless of verdicts": none where the level accepts
unfoldable pub first_failure : Level → Configuration → List Event → Option Failure
first_failure l g es = first_along (fails_event l) 1 g es
