-- What the answer of the call means. Assumes nothing.
use Rattle.std.specs.Prelude.{Ok, Err}
use Rattle.std.specs.Prelude as Library
use Rattle.trace.specs.Result.{Result, refused, taken}
use Rattle.state.specs.Answers.{refusal_of}
use Rattle.state.specs.declared.Refusal.{Refusal}
use Rattle.placing.specs.declared.Shown as Placing

abbrev pub arrangement_of : Library.Result Placing.Shown Refusal → Result Placing.Shown
arrangement_of (Err r) = refused (refusal_of r)
arrangement_of (Ok s) = taken s
