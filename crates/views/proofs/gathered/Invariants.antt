-- `views::gathered` meets its contract. The loop's invariant: what it says, of the keys passed. Assumes nothing.
use Rattle.std.proofs.Common.{◌≡◌, ℕ, ◌<◌}
use Rattle.views.proofs.gathered.Given as goal

abbrev pub invariant-loop-k : goal.invariant-loop-k
invariant-loop-k g l =
    (l.all ≡ 0 → (k : ℕ) → k < l.k → goal.F-post g l.word k 0) × (((k w : ℕ) → k < l.n → goal.F-post g l.word k w → w ≡ 0) → l.all ≡ 0)
