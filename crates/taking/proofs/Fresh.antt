-- Arrays that are new: no level has failed, and every value is a u32. Assumes nothing.
use Prim.Native.Nat.{ℕ, ◌^◌, ◌<◌}
use mathlib.Core.Path.{sym, subst}
use mathlib.Core.Option.{none}
use lib.Dec.{lit<}
use lib.ListN.{length-replicate}
use Rattle.state.specs.Places.{values_length}
use Rattle.state.proofs.Opening.{filled, zeros}
use Rattle.verdicts.specs.Verdicts.{verdicts_length, KeepsVerdict, KeepsVerdicts}
use Rattle.commits.specs.Records.{ValuesFit}

pub no-failure : KeepsVerdicts (λ l. none) (filled verdicts_length 0)
unfolding KeepsVerdict
no-failure = record { room = length-replicate {A = ℕ} verdicts_length 0; verdict = λ i l. zeros verdicts_length i }

pub no_value : ValuesFit (filled values_length 0)
no_value r = let z = zeros values_length r in subst (λ (x : ℕ). x < 2 ^ 32) (sym z) (lit< tt)
