-- `views::masks::adds_own` meets its contract: no difference is gathered exactly where each mask is right. Assumes nothing.
use Rattle.std.proofs.Common.{◌≡◌, ℕ, ◌+◌, ◌*◌, ◌↔◌, get_or, ◌∙◌, rules, arith}
use lib.Bits.{bit_xor}
use Rattle.sets.specs.Set.{union}
use Rattle.store.specs.Limits.{max_keys}
use Rattle.state.specs.Places.{per_key}
use Rattle.views.proofs.Tests.{xor-zero}
use Rattle.views.proofs.AddsOwn.{OwnBelow, adds-own-answer}
use Rattle.views.proofs.masks.adds_own.Goals as goal

pub returns : goal.returns
returns c =
    let a = c.args in
    let differ = c.gathered-differ in
    let row = 2 * (per_key * max_keys) + max_keys * a.me.0 in
    let word = λ (k : ℕ). bit_xor (get_or a.fresh.now k 0) (union (get_or a.views.now (a.base + k) 0) (get_or a.versions.now (row + k) 0)) in
    let own : (differ.result ≡ 0) ↔ OwnBelow a.fresh.now a.views.now a.base a.versions.now row a.n = (
      λ z. record { each = λ k l. let p = differ.ensures.none z k l in let e : word k ≡ 0 = search rules in (xor-zero _ _).0 e },
      λ h. differ.ensures.each (λ k w l p. let e : w ≡ word k = search rules in e ∙ (xor-zero _ _).1 (h.each k l)),
    ) in
    λ s u t made e number kept before after. adds-own-answer s u t made _ number _ _ _ _ (omega arith) kept before after own (omega arith)
