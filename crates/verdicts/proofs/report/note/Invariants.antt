-- `verdicts::report::note` meets its contract. The loop's invariant: the levels before this one have been noted. Assumes nothing.
use Prim.Native.Nat.{ℕ}
use mathlib.Core.List.{List}
use Rattle.store.specs.Store.{Store, View, Commit}
use Rattle.levels.specs.Level.{clauses_of, fails_clauses}
use Rattle.verdicts.specs.AtHand.{Judging}
use Rattle.verdicts.specs.Verdicts.{level_at, Live, FailingClauses}
use Rattle.verdicts.proofs.Noted.{Noted}
use Rattle.verdicts.proofs.report.note.Given as goal

abbrev pub invariant-loop-level : goal.invariant-loop-level
invariant-loop-level l =
    (s : Store) (u : View) (c : Commit) (values : List ℕ) → Judging s u c l.h values l.versions l.keys l.views l.fresh l.base l.n → FailingClauses s u c l.h.wanted.live l.failing → Live l.initial.verdicts l.h.wanted.live
    → Noted (λ i. fails_clauses l.number s u c (clauses_of (level_at i))) l.level l.initial.verdicts l.verdicts × Live l.verdicts l.h.wanted.live
