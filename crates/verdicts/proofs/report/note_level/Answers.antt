-- `verdicts::report::note_level` meets its contract. Assumes nothing.
use Prim.Native.Nat.{ℕ}
use mathlib.Core.Path.{sym, ap, ◌∙◌}
use native.Mathlib.Omega.{arith}
use lib.Bits.{bit_and, and_le_r}
use borrow.Author.Rules.{rules}
use Rattle.verdicts.proofs.FirstFailing.{level-passes}
use Rattle.verdicts.proofs.Noted.{keeps-failure, nothing-new, takes-failure}
use Rattle.verdicts.proofs.report.note_level.Goals as goal

pub returns-then-verdicts-level-ne0 : goal.returns-then-verdicts-level-ne0
returns-then-verdicts-level-ne0 c = λ s u commit values j h a. keeps-failure _ _ _ c.if-verdicts-level-ne0.true

pub returns-then-struck-eq0 : goal.returns-then-struck-eq0
returns-then-struck-eq0 c =
    λ s u commit values j h a.
    nothing-new _ _
    (level-passes c.args.number s u commit c.args.h.wanted.live c.args.failing h c.args.level (a (search rules))
    (ap (λ (m : ℕ). bit_and m c.args.failing) (sym c.clauses_of.ensures) ∙ c.if-struck-eq0.true))

pub returns : goal.returns
returns c =
    λ s u commit values j h a.
    takes-failure c.args.number s u commit c.args.h.wanted.live c.args.failing h c.args.level (search rules) (a (search rules))
    c.missing_by-at.result (search rules) (search rules)
    (ap (λ (m : ℕ). bit_and m c.args.failing) c.clauses_of.ensures) (search rules)
    (omega (arith, and_le_r c.clauses_of.result c.args.failing, c.ranges.failing.fits))
    c.lowest-clause.ensures.0
    (c.missing_by-at.ensures s u commit values j) c.write_down.ensures
