-- Demand 3 (00; 01, The words of demand 3), with the serial run by hand (02, E11): a single claim about the bytes of every taken trace. Assumes nothing.
use Rattle.std.specs.Prelude.{ℕ, suc, ◌≤◌, min, ◌≡◌, List, T}
use Rattle.std.proofs.Math.Option.{Option, some, none}
use Rattle.relations.specs.Walk.{Ring, side_by_side_in_ring}
use Rattle.store.specs.Store.{Store, CommitNumber}
use Rattle.store.specs.Links.{LinkKind, linked, is_rw}
use Rattle.store.specs.Image.{image}
use Rattle.trace.specs.Result.{taken}
use Rattle.trace.specs.Format.{Trace}
use Rattle.levels.specs.Level.{Level, MR, MW, RYW, WFR, CC, PSI, CP, SI, SER, Failure}
use Rattle.answer.specs.Answer.{final_store, accept, verdict}
use Rattle.answer.specs.Replay.{replay_trace, replay}
use Rattle.answer.specs.SerialRun.{all_zero, serial_run, newest_values}

-- "A level fails at the number of the first commit that fails it; one that accepts counts as failing at the number of commits
-- plus one."
unfoldable pub failing_commit : Option Failure → ℕ → CommitNumber
failing_commit (some f) commits = f.commit
failing_commit none commits = suc commits

abbrev pub fails_at : Level → Trace → CommitNumber
fails_at l t = failing_commit (verdict l t) (final_store t).commits

-- the level accepts the trace
abbrev pub Accepts : Level → Trace → Type 0
Accepts l t = verdict l t ≡ none

-- the links of a kind in a store; "A dependency is an SO, WR, WW or RW link"
abbrev pub LinkOf : Store → LinkKind → CommitNumber → CommitNumber → Type 0
LinkOf s kind a b = T (linked s kind a b)

-- what holds of a file that is the replay of a trace t: it is taken, as the replay's own records; "give the same store and the same image byte for
-- byte, and pass all ten"
pub record SameOutcome (t : Trace) (file : List ℕ) : Type 0 where
  pub taken_as : accept file ≡ taken (replay_trace t)
  pub same_store : final_store (replay_trace t) ≡ final_store t
  pub same-image : image (final_store (replay_trace t)) ≡ image (final_store t)
  pub all-accept : (l : Level) → Accepts l (replay_trace t)

-- what demand 3 says of a taken trace
pub record Claim (t : Trace) : Type 0 where
  -- "Snapshot isolation fails no later than parallel snapshot isolation and no later than consistent prefix."
  pub si-psi : fails_at SI t ≤ fails_at PSI t
  pub si-cp : fails_at SI t ≤ fails_at CP t
  -- "Each of the latter two fails no later than causal consistency,"
  pub psi-cc : fails_at PSI t ≤ fails_at CC t
  pub cp-cc : fails_at CP t ≤ fails_at CC t
  -- "and that no later than any of its four session guarantees."
  pub cc-mr : fails_at CC t ≤ fails_at MR t
  pub cc-mw : fails_at CC t ≤ fails_at MW t
  pub cc-ryw : fails_at CC t ≤ fails_at RYW t
  pub cc-wfr : fails_at CC t ≤ fails_at WFR t
  -- "Snapshot isolation fails no earlier than the earliest of serialisability, monotonic reads and read-your-writes."
  pub earliest-si : min (fails_at SER t) (min (fails_at MR t) (fails_at RYW t)) ≤ fails_at SI t
  -- "If snapshot isolation passes, every ring of dependencies in the store has two read-to-overwrite links side by side."
  pub si-rings : Accepts SI t → (kind : LinkKind) (kinds : List LinkKind) (a : CommitNumber)
      → Ring (LinkOf (final_store t)) kind kinds a → T (side_by_side_in_ring is_rw kind kinds)
  -- "If serialisability passes, there is no ring;"
  pub ser-rings : Accepts SER t → (kind : LinkKind) (kinds : List LinkKind) (a : CommitNumber) → ¬ Ring (LinkOf (final_store t)) kind kinds a
  -- "and the same commits in the same order, each made from a full view and left with one, are taken too, give the same store
  -- and the same image byte for byte, and pass all ten."
  pub ser-replay : Accepts SER t → SameOutcome t (replay t)
  -- "For a trace that SER accepts, .. Each read finds its value there, and the table ends with each key's newest version." (02, E11)
  pub ser-serial : Accepts SER t → serial_run all_zero t.events ≡ some (newest_values (final_store t))

-- "Whatever trace is taken, all of this holds of it": of the bytes of any file
abbrev pub Demand3 : List ℕ → Type 0
Demand3 bytes = (t : Trace) → accept bytes ≡ taken t → Claim t
