-- What the answer of a call means, which edition is meant, and what the ending of a call is given. Assumes nothing.
use Rattle.std.specs.Prelude.{ℕ, ◌≡◌, List, length}
use Rattle.std.specs.Prelude as Library
use Rattle.trace.specs.Result.{Result, taken}
use Rattle.trace.specs.Format.{Trace}
use Rattle.trace.specs.Meaning.{WholeFile}
use Rattle.trace.specs.declared.form.Header.{Header}
use Rattle.trace.specs.Edition as Editions
use Rattle.answer.specs.Answer.{accept}
use Rattle.state.specs.declared.Refusal.{Refusal}
use Rattle.taking.specs.Taking.{written_of}
use Rattle.converting.specs.declared.Edition.{Edition}
use Rattle.converting.specs.declared.Edition.TheVariants.{Long, Short}

abbrev pub edition_of : Edition → Editions.Edition
edition_of Long = Editions.long
edition_of Short = Editions.short

abbrev pub conversion_of : Library.Result ℕ Refusal → Result ℕ
conversion_of r = written_of r

-- the bytes are a file in form, with its header h, and are taken as a trace
pub record Ending (bytes : List ℕ) (h : Header) : Type 0 where
  pub trace : Trace
  pub in-form : WholeFile bytes h
  pub accepted : accept bytes ≡ taken trace
  pub all-records : length trace.events ≡ h.records
