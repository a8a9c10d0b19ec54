-- `shifts::masks::sight` meets its contract. Assumes nothing.
use Rattle.std.proofs.Common.{◌≡◌, sym, ap, ◌∙◌, rules}
use Rattle.std.proofs.Math.Option.{none}
use Rattle.store.specs.Refusal.{bad_mask}
use Rattle.state.specs.Answers.{key_of}
use Rattle.shifts.proofs.Refused.{bad-refused, sight-is}
use Rattle.shifts.proofs.masks.sight.Goals as goal

pub returns-in-Some : goal.returns-in-Some
returns-in-Some c = λ s old u m.
    bad-refused _ s u (sym (c.bad_mask.ensures s u m.arrays.number m.arrays.in-keys m.in-fresh) ∙ ap key_of c.in-Some.is)
    c.of_key.ensures

pub returns : goal.returns
returns c = λ s old u m.
    let good : bad_mask s u ≡ none = sym (c.bad_mask.ensures s u m.arrays.number m.arrays.in-keys m.in-fresh) ∙ ap key_of c.in_default.is in
    sight-is _ s u good _ (c.viewed.ensures s old u m good) _ (λ p a learnt. search rules) c.map_err.ensures.cases
