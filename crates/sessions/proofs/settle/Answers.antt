-- The arrays after a commit keep the store after it (proofs/Settled.antt).
use Prim.Native.Nat.{ℕ, ◌+◌, ◌<◌}
use native.Mathlib.Omega.{arith}
use mathlib.Core.Path.{◌≡◌, sym, ◌∙◌, subst}
use mathlib.Core.Bool.{Bool, true, false}
use mathlib.Core.Logic.{◌↔◌}
use mathlib.Core.List.{[]}
use lib.ListN.{set, length-set}
use Rattle.store.specs.Store.{Commit}
use Rattle.store.specs.Update.{update}
use Rattle.state.specs.Places.{bar_place}
use Rattle.state.specs.Keeps.{KeepsSessions}
use Rattle.growth.specs.Made.{Operates}
use Rattle.store.specs.Limits.{max_clients, numbers}
use Rattle.sessions.proofs.Settled.{idle-sessions, sessions-settled, commits-settled, commits-idle}
use Rattle.sessions.proofs.settle.Goals as goal

pub bounds-sessions-client-then-operates-3 : goal.bounds-sessions-client-then-operates-3
bounds-sessions-client-then-operates-3 c = simp length-set (omega (arith, c.requires))

pub bounds-sessions-client-then-operates-4 : goal.bounds-sessions-client-then-operates-4
bounds-sessions-client-then-operates-4 c = simp length-set (omega (arith, c.requires))

pub bounds-commits-t-then-operates : goal.bounds-commits-t-then-operates
bounds-commits-t-then-operates c = simp length-set (omega (arith, c.requires))

pub bounds-commits-t-then-operates-2 : goal.bounds-commits-t-then-operates-2
bounds-commits-t-then-operates-2 c = simp length-set (omega (arith, c.requires))

pub returns-then-operates : goal.returns-then-operates
returns-then-operates c =
    let p = c.requires in
    let less : c.args.client < max_clients = p.2 in
    let few : c.args.me.0 < numbers = p.3 in record {
      sessions = λ s u k m number client session op from h.
          sessions-settled s u k m c.args.me.0 c.args.client c.args.session number client session less few c.args.sources from
          c.args.sessions.now [] h c.insert.result c.union-drawn.result c.insert.ensures c.union-drawn.ensures
          (op.0 c.if-operates.true);
      commits = λ s u k m number client session op from h.
          commits-settled s u k m c.args.me.0 c.args.client c.args.session number client session less few c.args.sources from
          c.args.sessions.now c.args.commits.now h c.insert.result c.union-drawn.result c.insert.ensures c.union-drawn.ensures
          (op.0 c.if-operates.true);
    }

pub returns-else-operates : goal.returns-else-operates
returns-else-operates c =
    let less : c.args.client < max_clients = c.requires.2 in
    let few : c.args.me.0 < numbers = c.requires.3 in
    let idle : (k : Commit) → (c.args.operates ≡ true) ↔ Operates k → ¬ Operates k = λ k op o. false-true (sym c.if-operates.false ∙ op.1 o) in record {
      sessions = λ s u k m number client session op from h. let same : k.session + 1 ≡ 1 + c.args.session = omega arith in
          subst (λ (v : ℕ). KeepsSessions (update s u k) (set c.args.sessions.now (bar_place c.args.client) v)) same
          (idle-sessions s u k m (idle k op) c.args.sessions.now h c.args.client client less);
      commits = λ s u k m number client session op from h r.
          commits-idle s u k m c.args.me.0 c.args.client c.args.session number client session few (idle k op) c.args.commits.now r;
    }
  where
    false-true : {X : Type 0} → ◌≡◌ {A = Bool} false true → X
    false-true e = let z : ◌≡◌ {A = ℕ} 0 1 = cc in absurd (omega arith)
