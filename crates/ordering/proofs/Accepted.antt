-- "Images from a trace that SER accepts must get 0" (02, E9): in the store that such a trace ends in links lead from lower to higher commit
-- numbers, so it has no ring. Assumes nothing.
use Prim.Native.Nat.{◌<◌}
use mathlib.Core.Path.{◌≡◌, refl, sym, ap}
use mathlib.Core.List.{List}
use native.Mathlib.Omega.{arith}
use native.Mathlib.Decide.{ℕ_discrete, dec_lt}
use lib.Dec.{T}
use Rattle.relations.specs.Relation.{Plus, one, more}
use Rattle.dependencies.specs.History.{write_read, write-write, read-write}
use Rattle.store.specs.Store.{CommitNumber, Client, View, Store, Configuration, opening, Commit, shift, commit}
use Rattle.store.specs.Update.{view_before, step}
use Rattle.store.specs.Links.{LinkKind, so, wr, ww, rw as rw-kind}
use Rattle.store.specs.Sound.{Sound, WithinKeys}
use Rattle.store.specs.Legal.{LegalCommit}
use Rattle.store.proofs.Sound.{sound-opening}
use Rattle.store.proofs.Run.{run-keeps}
use Rattle.trace.specs.Format.{Trace}
use Rattle.trace.proofs.WellFormed.{WellFormed as WellFormedTrace}
use Rattle.levels.specs.Level.{SER}
use Rattle.levels.proofs.Levels.{Passes}
use Rattle.answer.specs.Answer.{final_store}
use Rattle.answer.specs.Demand3.{Accepts}
use Rattle.answer.proofs.Taken.{Taken}
use Rattle.answer.proofs.Orders.{accepts-each}
use Rattle.answer.proofs.FullView.{newest-of-all}
use Rattle.ordering.specs.Links.{links, IsCommit}
use Rattle.ordering.specs.Judge.{Shown, order, ring, judge_bare}
use Rattle.ordering.specs.Claim.{Holds, of-order, of-ring}
use Rattle.ordering.specs.Order.{IsOrder}
use Rattle.ordering.proofs.Shape.{WellFormed, LinkOf, some-kind, linked-by-is}
use Rattle.growth.specs.Ordered.{Ordered}
use Rattle.ordering.proofs.Taken.{numbers-rise, taken-well-formed}
use Rattle.ordering.proofs.Forward.{Forward, forward-opening, forward-update}
use Rattle.ordering.proofs.Rings.{ring-walk}
use Rattle.ordering.proofs.Judge.{judge-bare}

-- ---- along a run that serialisability accepts

forward-commit : (g : Configuration) (c : Commit) → Sound g → WithinKeys g.store.keys c → LegalCommit g c → Passes SER g c → Forward g.store → Forward (step g (commit c)).store
unfolding step
forward-commit g c h f l (ser, _) x =
    let s = g.store in
    let u = view_before g c in
    forward-update s u c h.store
    (λ k t. newest-of-all s u (h.views c.client) k (f.read-keys k t) (h.store.some-version k (f.read-keys k t)) (λ i m. ser _ k i (m, refl))) x

forward-shift : (g : Configuration) (d : Client) (u : View) → Forward g.store → Forward (step g (shift d u)).store
unfolding step
forward-shift g d u x = x

module _ (t : Trace) (w : WellFormedTrace t) (h : Taken t) (accepts : Accepts SER t) where
  abbrev s : Store
  s = final_store t

  formed : WellFormed s
  formed = taken-well-formed t w h

  rise : Ordered s
  rise = numbers-rise t w h

  forward : Forward s
  unfolding opening
  forward =
      run-keeps (Passes SER) (λ g. Forward g.store) (λ g d u _ _. forward-shift g d u) forward-commit
      (sound-opening t.keys) h.legal ((accepts-each t h SER).0 accepts) (forward-opening t.keys)

  -- a link leads to a higher number
  kind-up : (kind : LinkKind) (a b : CommitNumber) → IsCommit s.commits a → IsCommit s.commits b → LinkOf s formed kind a b → a < b
  kind-up so a b ca cb (e, l) = go (dec_lt a b) (dec_lt b a)
    where
      go : Dec (a < b) → Dec (b < a) → a < b
      go (yes x) d = x
      go (no x) (yes y) = let z = rise.sessions-rise b a cb.0 y (let m = ca.1 in omega (arith, m)) (sym e) in absurd (omega (arith, z))
      go (no x) (no y) = let z : a ≡ b = omega arith in let q = ap s.session_of z in absurd (omega (arith, q))
  kind-up wr a b ca cb (write_read {k} {i} x r) = forward.wr a b k i x r
  kind-up ww a b ca cb (write-write {k} {i} {j} x y l) = forward.ww a b k i j x y l
  kind-up rw-kind a b ca cb (read-write {k} {i} {j} r x l n) = go (ℕ_discrete a b)
    where
      go : Dec (a ≡ b) → a < b
      go (yes e) = absurd (n e)
      go (no d) = omega (arith, forward.rw-up a b k i j r x l)

  walk_up : {a b : CommitNumber} → Plus (λ x y. T (links s x y)) a b → a < b
  walk_up {a} {b} (one l) = let x = some-kind s a b l in let y = (linked-by-is s formed x.0 a b).0 x.1 in kind-up x.0 a b y.0.0 y.0.1 y.1
  walk_up {a} {b} (more {b = c} l p) =
      let x = some-kind s a c l in
      let y = (linked-by-is s formed x.0 a c).0 x.1 in
      let first = kind-up x.0 a c y.0.0 y.0.1 y.1 in
      omega (arith, first, walk_up p)

  -- "Images from a trace that SER accepts must get 0."
  pub accepted-image : (xs : List CommitNumber) × (judge_bare s ≡ order xs) × IsOrder s xs
  accepted-image = go (judge_bare s) (judge-bare s formed) refl
    where
      go : (a : Shown) → Holds s a → judge_bare s ≡ a → (xs : List CommitNumber) × (judge_bare s ≡ order xs) × IsOrder s xs
      go (order xs) (of-order o f l) e = (xs, e, o)
      go (ring xs) (of-ring x l n) e = let c = ring-walk (links s) xs x in let z = walk_up c.1 in absurd (omega (arith, z))
