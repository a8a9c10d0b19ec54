-- `views::masks::same` meets its contract: masks are the same where they differ in no place. Assumes nothing.
use Rattle.std.proofs.Common.{◌≡◌, ℕ, ◌+◌, get_or, ◌∙◌, rules}
use lib.Bits.{bit_xor}
use Rattle.search.proofs.Tests.{eq_is}
use Rattle.views.proofs.Tests.{xor-zero}
use Rattle.views.proofs.masks.same.Goals as goal

pub returns : goal.returns
returns c =
    let word = λ (k : ℕ). bit_xor (get_or c.args.fresh.now k 0) (get_or c.args.masks.now (c.args.base + k) 0) in (
      λ t k l. let p = c.gathered.ensures.none ((eq_is _ 0).0 t) k l in (xor-zero _ _).0 (search rules),
      λ h. (eq_is _ 0).1 (c.gathered.ensures.each (λ k w l p. let e : w ≡ word k = search rules in e ∙ (xor-zero _ _).1 (h k l))),
    )
