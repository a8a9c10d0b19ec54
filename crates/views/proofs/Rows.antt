-- The masks of a record as a row. Assumes nothing.
use Rattle.std.proofs.Common.{◌≡◌, ℕ, ◌+◌, List, get_or, ap, ◌∙◌, arith}
use Rattle.store.specs.Store.{View}
use Rattle.state.specs.Keeps.{KeepsMasks}
use Rattle.state.specs.Rows.{RowAt}

-- they are a row at 0
pub masks-row : {n : ℕ} {u : View} {fresh : List ℕ} → KeepsMasks n u fresh → RowAt n fresh 0 u
masks-row {n} {u} {fresh} h k l = ap (λ (j : ℕ). get_or fresh j 0) (let e : 0 + k ≡ k = omega arith in e) ∙ h.masks k l
