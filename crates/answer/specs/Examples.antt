-- The example traces A to H, the starred ones of 01 ("Traces from the bench"), and L (02, E4): one table of traces with the whole answer for the
-- file of each. proofs/Examples.antt is the claim about it. Assumes nothing.
use Rattle.std.specs.Prelude.{ℕ, List, [], ◌∷◌, get_or}
use Rattle.std.proofs.Math.Option.{Option, some, none}
use Rattle.store.specs.Store.{Key, Value, Client, SessionNumber, View, read, write, Operation, Event, shift, commit}
use Rattle.store.specs.Refusal.{refuse_place}
use Rattle.trace.specs.Result.{Result, refused, taken}
use Rattle.trace.specs.Format.{Trace}
use Rattle.levels.specs.Clause.{Clause, monotonic_reads, read_your_writes, monotonic_writes, writes_follow_reads, update_atomic, consistent_prefix, snapshot_isolation, serialisability}
use Rattle.levels.specs.Level.{Failure}
use Rattle.answer.specs.Answer.{Report}

-- a trace, and the answer for its file
pub record Row : Type 0 where
  pub trace : Trace
  pub answered : Result Report

-- ---- how the rows are written

abbrev masks : List ℕ → View
masks ms k = get_or ms k 0

abbrev reading : Key → Value → Operation
reading k x = record { access = read; key = k; value = x }

abbrev writing : Key → Value → Operation
writing k x = record { access = write; key = k; value = x }

abbrev commits : Client → SessionNumber → List Operation → List ℕ → Event
commits d n os after = commit (record { client = d; session = n; operations = os; view_after = masks after })

abbrev shifts : Client → List ℕ → Event
shifts d ms = shift d (masks ms)

abbrev accepted : Option Failure
accepted = none

-- refused at a record, which is the commit of that number, by a clause; the version missing is version 1 of key 0
abbrev pub fails : ℕ → ℕ → Clause → Option Failure
fails t n x = some (record { commit = t; at_record = n; clause = x; key = 0; version = 1 })

-- the ten verdicts stand in report order: MR MW RYW WFR CC UA PSI CP SI SER
abbrev judges : List (Option Failure) → ℕ → ℕ → ℕ → Result Report
judges vs records commits image = taken (record { verdicts = vs; records = records; commits = commits; image_length = image })

-- ---- the rows

-- "A* Header only, one key: ten accepted, image 28 bytes."
abbrev trace_a : Row
trace_a = record {
  trace = record { keys = 1; clients = 1; events = [] };
  answered = judges (accepted ∷ accepted ∷ accepted ∷ accepted ∷ accepted ∷ accepted ∷ accepted ∷ accepted ∷ accepted ∷ accepted ∷ []) 0 0 28;
}

-- "B* Lost update, one key, two clients. Each reads 0 and writes 1 from {0}; views after {0,1} and {0,2}. UA, PSI, SI fail at record
-- 2, clause 5, key 0, version 1; SER there by clause 8; others accept."
abbrev pub trace_b : Row
trace_b = record {
  trace = record {
    keys = 1;
    clients = 2;
    events = commits 0 0 (reading 0 0 ∷ writing 0 1 ∷ []) (3 ∷ []) ∷ commits 1 0 (reading 0 0 ∷ writing 0 1 ∷ []) (5 ∷ []) ∷ [];
  };
  answered =
      judges
      (accepted ∷ accepted ∷ accepted ∷ accepted ∷ accepted ∷ fails 2 2 update_atomic ∷ fails 2 2 update_atomic ∷ accepted
      ∷ fails 2 2 update_atomic ∷ fails 2 2 serialisability ∷ []) 2 2 92;
}

-- "C* Long fork: client 0 writes key 0; client 1 writes key 1; client 2 shifts to {0,1},{0} and reads 1 and 0; client 3 shifts to
-- {0},{0,1} and reads 0 and 1. Writers' views after gain their own version only; readers' stay. CP fails at record 6 by 6, SI by 7,
-- both key 0 version 1; SER at record 2, key 0 version 1; PSI and the rest accept."
abbrev trace_c : Row
trace_c = record {
  trace = record {
    keys = 2;
    clients = 4;
    events =
        commits 0 0 (writing 0 1 ∷ []) (3 ∷ 1 ∷ [])
        ∷ commits 1 0 (writing 1 1 ∷ []) (1 ∷ 3 ∷ [])
        ∷ shifts 2 (3 ∷ 1 ∷ [])
        ∷ commits 2 0 (reading 0 1 ∷ reading 1 0 ∷ []) (3 ∷ 1 ∷ [])
        ∷ shifts 3 (1 ∷ 3 ∷ [])
        ∷ commits 3 0 (reading 0 0 ∷ reading 1 1 ∷ []) (1 ∷ 3 ∷ [])
        ∷ [];
  };
  answered =
      judges
      (accepted ∷ accepted ∷ accepted ∷ accepted ∷ accepted ∷ accepted ∷ accepted ∷ fails 4 6 consistent_prefix
      ∷ fails 4 6 snapshot_isolation ∷ fails 2 2 serialisability ∷ []) 6 4 176;
}

-- "D* Write skew, one commit each: client 0 reads both keys as 0 and writes key 0, client 1 reads both as 0 and writes key 1; views
-- after gain the own version only. Only SER fails, record 2, key 0, version 1."
abbrev pub trace_d : Row
trace_d = record {
  trace = record {
    keys = 2;
    clients = 2;
    events =
        commits 0 0 (reading 0 0 ∷ writing 0 1 ∷ reading 1 0 ∷ []) (3 ∷ 1 ∷ [])
        ∷ commits 1 0 (reading 0 0 ∷ reading 1 0 ∷ writing 1 1 ∷ []) (1 ∷ 3 ∷ [])
        ∷ [];
  };
  answered =
      judges
      (accepted ∷ accepted ∷ accepted ∷ accepted ∷ accepted ∷ accepted ∷ accepted ∷ accepted ∷ accepted ∷ fails 2 2 serialisability ∷ [])
      2 2 128;
}

-- "E* Client 0 writes key 0; client 1 shifts to {0,1}, reads 1, ends with {0}. MR, CC, PSI, CP, SI fail at record 3, clause 1; SER
-- accepts."
abbrev pub trace_e : Row
trace_e = record {
  trace = record {
    keys = 1;
    clients = 2;
    events = commits 0 0 (writing 0 1 ∷ []) (3 ∷ []) ∷ shifts 1 (3 ∷ []) ∷ commits 1 0 (reading 0 1 ∷ []) (1 ∷ []) ∷ [];
  };
  answered =
      judges
      (fails 2 3 monotonic_reads ∷ accepted ∷ accepted ∷ accepted ∷ fails 2 3 monotonic_reads ∷ accepted ∷ fails 2 3 monotonic_reads
      ∷ fails 2 3 monotonic_reads ∷ fails 2 3 monotonic_reads ∷ accepted ∷ []) 3 2 76;
}

-- "F* Client 0 writes key 0, then key 1; client 2 shifts to {0},{0,1} and reads key 1. MW fails at record 4, key 0, version 1; WFR
-- accepts."
abbrev pub trace_f : Row
trace_f = record {
  trace = record {
    keys = 2;
    clients = 3;
    events =
        commits 0 0 (writing 0 1 ∷ []) (3 ∷ 1 ∷ [])
        ∷ commits 0 1 (writing 1 1 ∷ []) (3 ∷ 3 ∷ [])
        ∷ shifts 2 (1 ∷ 3 ∷ [])
        ∷ commits 2 0 (reading 1 1 ∷ []) (1 ∷ 3 ∷ [])
        ∷ [];
  };
  answered =
      judges
      (accepted ∷ fails 3 4 monotonic_writes ∷ accepted ∷ accepted ∷ fails 3 4 monotonic_writes ∷ accepted ∷ fails 3 4 monotonic_writes
      ∷ fails 3 4 consistent_prefix ∷ fails 3 4 snapshot_isolation ∷ fails 3 4 serialisability ∷ []) 4 3 152;
}

-- "G* Client 0 writes key 0; client 1 shifts to {0,1},{0}, then in one commit reads key 0 and writes key 1; client 2 shifts to
-- {0},{0,1} and reads key 1. WFR fails at record 5, key 0, version 1; MW accepts."
abbrev trace_g : Row
trace_g = record {
  trace = record {
    keys = 2;
    clients = 3;
    events =
        commits 0 0 (writing 0 1 ∷ []) (3 ∷ 1 ∷ [])
        ∷ shifts 1 (3 ∷ 1 ∷ [])
        ∷ commits 1 0 (reading 0 1 ∷ writing 1 1 ∷ []) (3 ∷ 3 ∷ [])
        ∷ shifts 2 (1 ∷ 3 ∷ [])
        ∷ commits 2 0 (reading 1 1 ∷ []) (1 ∷ 3 ∷ [])
        ∷ [];
  };
  answered =
      judges
      (accepted ∷ accepted ∷ accepted ∷ fails 3 5 writes_follow_reads ∷ fails 3 5 writes_follow_reads ∷ accepted ∷ fails 3 5 writes_follow_reads
      ∷ fails 3 5 consistent_prefix ∷ fails 3 5 snapshot_isolation ∷ fails 3 5 serialisability ∷ []) 5 3 152;
}

-- "H* One commit writes two keys; another client shifts to {0,1},{0}: code 11, record 2, key 1, version 1."
abbrev trace_h : Row
trace_h = record {
  trace = record {
    keys = 2;
    clients = 2;
    events = commits 0 0 (writing 0 1 ∷ writing 1 1 ∷ []) (3 ∷ 3 ∷ []) ∷ shifts 1 (3 ∷ 1 ∷ []) ∷ [];
  };
  answered = refused (refuse_place 11 2 (record { key = 1; version = 1 }));
}

-- "a client writes key 0, then reads 1 from it and ends with {0}: RYW now fails at record 2, clause 2, key 0, version 1 .. MR fails there as before, by
-- clause 1" (02, E4)
abbrev pub trace_l : Row
trace_l = record {
  trace = record {
    keys = 1;
    clients = 1;
    events = commits 0 0 (writing 0 1 ∷ []) (3 ∷ []) ∷ commits 0 1 (reading 0 1 ∷ []) (1 ∷ []) ∷ [];
  };
  answered =
      judges
      (fails 2 2 monotonic_reads ∷ accepted ∷ fails 2 2 read_your_writes ∷ accepted ∷ fails 2 2 monotonic_reads ∷ accepted ∷ fails 2 2 monotonic_reads
      ∷ fails 2 2 monotonic_reads ∷ fails 2 2 monotonic_reads ∷ accepted ∷ []) 2 2 76;
}

abbrev pub table : List Row
table = trace_a ∷ trace_b ∷ trace_c ∷ trace_d ∷ trace_e ∷ trace_f ∷ trace_g ∷ trace_h ∷ trace_l ∷ []
