-- What the taking of a trace file is given, and what its answer says. Assumes nothing.
use Rattle.std.specs.Prelude.{ℕ, ◌≤◌, ◌≡◌, List, length, replicate, Result, Ok, Err}
use Rattle.store.specs.Limits.{max_commits}
use Rattle.store.specs.Sound.{SoundStore}
use Rattle.store.specs.Image.{ClientsFit}
use Rattle.trace.specs.Result as Trace
use Rattle.trace.specs.Result.{refused, taken}
use Rattle.trace.specs.Format.{Trace}
use Rattle.trace.specs.Meaning.{WholeFile}
use Rattle.trace.specs.declared.form.Header.{Header}
use Rattle.answer.specs.Answer.{final_store, accept, verdict}
use Rattle.state.specs.Places.{versions_length, keys_length, commits_length, views_length}
use Rattle.state.specs.Room.{ViewsRoom}
use Rattle.state.specs.Keeps.{KeepsVersions, KeepsKeys, KeepsCommits, KeepsStored}
use Rattle.state.specs.Answers.{refusal_of}
use Rattle.state.specs.declared.Refusal.{Refusal}
use Rattle.verdicts.specs.Told.{tell_all, verdicts_of}
use Rattle.verdicts.specs.declared.told.Verdicts.{Verdicts}
use Rattle.taking.specs.declared.Taken.{Taken}

-- the arrays of the opening store
pub record Opened (versions keys commits views : List ℕ) : Type 0 where
  pub in-versions : versions ≡ replicate versions_length 0
  pub in-keys : keys ≡ replicate keys_length 1
  pub in-commits : commits ≡ replicate commits_length 0
  pub in-views : views ≡ replicate views_length 1

-- the bytes are a file in form, with its header h, and are taken as trace t; the arrays keep its last store, of `count` commits: what the ending of a
-- call needs to know
pub record Takes (bytes : List ℕ) (t : Trace) (versions keys commits views : List ℕ) (h : Header) (count : ℕ) (vs : Verdicts) : Type 0 where
  pub in-form : WholeFile bytes h
  pub accepted : accept bytes ≡ taken t
  pub in-versions : KeepsVersions (final_store t) versions
  pub in-keys : KeepsKeys (final_store t) keys
  pub in-commits : KeepsCommits (final_store t) commits
  pub views-room : ViewsRoom views
  pub in-views : KeepsStored (final_store t) views
  pub all-keys : (final_store t).keys ≡ h.keys
  pub all-records : length t.events ≡ h.records
  pub all-commits : (final_store t).commits ≡ count
  pub few-commits : count ≤ max_commits
  pub sound : SoundStore (final_store t)
  pub clients-fit : ClientsFit (final_store t)
  -- the verdicts are those of the levels on the trace
  pub told : verdicts_of vs ≡ tell_all (λ l. verdict l t)

-- what an answer says of the bytes of a file
unfoldable pub TakingSays : List ℕ → List ℕ → List ℕ → List ℕ → List ℕ → Result Taken Refusal → Type 0
TakingSays bytes versions keys commits views (Err r) = accept bytes ≡ refused (refusal_of r)
TakingSays bytes versions keys commits views (Ok a) = (t : Trace) × Takes bytes t versions keys commits views a.header a.commits a.verdicts

-- the answer of a call that writes a file: its refusal, or the length of the file
abbrev pub written_of : Result ℕ Refusal → Trace.Result ℕ
written_of (Err r) = refused (refusal_of r)
written_of (Ok n) = taken n
