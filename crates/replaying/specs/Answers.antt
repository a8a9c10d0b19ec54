-- What the answer of the call means, and what its ending is given. Assumes nothing.
use Rattle.std.specs.Prelude.{ℕ, ◌≤◌, ◌≡◌, List}
use Rattle.std.specs.Prelude as Library
use Rattle.search.specs.Choose.{map_some}
use Rattle.store.specs.Limits.{max_commits}
use Rattle.trace.specs.Result.{Result, taken}
use Rattle.trace.specs.Format.{Trace}
use Rattle.trace.specs.Meaning.{WholeFile}
use Rattle.trace.specs.declared.form.Header.{Header}
use Rattle.levels.specs.Level.{SER}
use Rattle.answer.specs.Answer.{final_store, accept, verdict}
use Rattle.state.specs.declared.Refusal.{Refusal}
use Rattle.verdicts.specs.Told.{tell, verdict_of}
use Rattle.verdicts.specs.declared.told.Verdicts.{Verdicts}
use Rattle.taking.specs.Taking.{written_of}

-- the answer of the code
abbrev pub replay_of : Library.Result ℕ Refusal → Result ℕ
replay_of r = written_of r

-- the bytes are a file in form, with its header h, and are taken as a trace of `count` commits; the verdict on SER is told
pub record Ending (bytes : List ℕ) (h : Header) (count : ℕ) (vs : Verdicts) : Type 0 where
  pub trace : Trace
  pub in-form : WholeFile bytes h
  pub accepted : accept bytes ≡ taken trace
  pub all-commits : (final_store trace).commits ≡ count
  pub few-commits : count ≤ max_commits
  pub told : verdict_of vs.ser ≡ map_some tell (verdict SER trace)
