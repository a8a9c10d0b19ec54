-- Rings in the store that a taken trace ends in (00, demand 3). Along the run each commit that passes keeps the graph without closed
-- walks: under snapshot isolation without closed walks of clause 7's steps, with each client's view holding what its commits wrote and
-- read; under serialisability without closed walks of any links. Assumes nothing.
use Prim.Native.Nat.{ℕ}
use mathlib.Core.Path.{◌≡◌, sym, subst}
use mathlib.Core.List.{List}
use lib.Dec.{T, eqb}
use Rattle.search.proofs.Choose.{choose-ind}
use Rattle.search.proofs.Tests.{eq_is}
use Rattle.relations.specs.Walk.{Ring, side_by_side_in_ring}
use Rattle.relations.proofs.Walks.{Acyclic}
use Rattle.dependencies.specs.History.{History, SnapshotStep}
use Rattle.dependencies.specs.History as D
use Rattle.dependencies.proofs.Growth.{Grown}
use Rattle.dependencies.proofs.Opening.{opening-snapshot-acyclic, opening-acyclic}
use Rattle.dependencies.proofs.Owned.{Owned, Grow, owned-opening, owned-shift, owned-owns, owned-commit}
use Rattle.dependencies.proofs.Acyclic.{snapshot-stays-acyclic, dependencies-stay-acyclic}
use Rattle.dependencies.proofs.Rings.{LinkThat, rings-have-RW-side-by-side, no-rings}
use Rattle.store.specs.Store.{Key, Client, CommitNumber, View, Configuration, opening, next_number, Commit, shift, commit}
use Rattle.store.specs.Update.{writes, at_number, view_before, store_after, step, final}
use Rattle.store.specs.Links.{LinkKind, is_rw}
use Rattle.store.proofs.Updated.{at_same}
use Rattle.store.specs.Sound.{Sound, WithinKeys}
use Rattle.store.specs.Legal.{LegalShift, LegalCommit}
use Rattle.store.proofs.Sound.{sound-opening}
use Rattle.store.specs.History.{history, held}
use Rattle.store.proofs.Links.{link-means}
use Rattle.store.proofs.Opening.{opening-history}
use Rattle.store.proofs.Run.{run-keeps}
use Rattle.trace.specs.Format.{Trace}
use Rattle.levels.specs.Level.{SI, SER}
use Rattle.levels.proofs.Levels.{Passes}
use Rattle.answer.specs.Answer.{final_store}
use Rattle.answer.specs.Demand3.{Accepts, LinkOf}
use Rattle.answer.proofs.Taken.{Taken, sound-final}
use Rattle.answer.proofs.Orders.{accepts-each}
use Rattle.growth.proofs.Made.{client-new}
use Rattle.answer.proofs.Graph.{made, commit-grows}

-- the versions that each client's view holds
abbrev views-of : Configuration → Client → D.Held
views-of g d = held (g.views d)

-- a client's view replaced by one that holds at least as much: all views hold at least as much as before
pub views-grow : (views : Client → View) (d : Client) (u : View) → ((k i : ℕ) → held (views d) k i → held u k i)
    → Grow (λ e. held (views e)) (λ e. held (at_number d u views e))
views-grow views d u more e k i x =
    choose-ind (λ (v : View). held v k i) (eqb e d) u (views e) (λ q. more k i (subst (λ (y : Client). held (views y) k i) ((eq_is e d).0 q) x)) (λ _. x)

-- what holds of a configuration where each commit so far passed snapshot isolation
record SnapshotGraph (g : Configuration) : Type 0 where
  owned : Owned (history g.store) (views-of g)
  acyclic : Acyclic (SnapshotStep (history g.store))

snapshot-opening : (keys : ℕ) → SnapshotGraph (opening keys)
snapshot-opening keys =
    let o = opening-history keys in
    record { owned = owned-opening _ (views-of (opening keys)) o; acyclic = opening-snapshot-acyclic _ o }

-- a shift changes views only
snapshot-shift : (g : Configuration) (d : Client) (u : View) → LegalShift g d u → SnapshotGraph g → SnapshotGraph (step g (shift d u))
unfolding step
snapshot-shift g d u l i = record {
  owned = owned-shift (history g.store) (views-of g) (λ e. held (at_number d u g.views e)) (views-grow g.views d u l.grows) i.owned;
  acyclic = i.acyclic;
}

dependency-shift : (g : Configuration) (d : Client) (u : View) → Acyclic (D.Dependency (history g.store))
    → Acyclic (D.Dependency (history (step g (shift d u)).store))
unfolding step
dependency-shift g d u i = i

-- a legal commit on a sound configuration, and the histories before and after it
module _ (g : Configuration) (c : Commit) (h : Sound g) (f : WithinKeys g.store.keys c) (l : LegalCommit g c) where
  abbrev H : History
  H = history g.store

  abbrev H' : History
  H' = history (store_after g c)

  abbrev t : CommitNumber
  t = next_number g.store

  abbrev Writes : Key → Type 0
  Writes k = T (writes c k)

  grown : Grown H H' (held (view_before g c)) t Writes
  grown = commit-grows g c h f l

  is-client : H'.client_of t ≡ c.client
  is-client = client-new g.store (view_before g c) c (made g c h f l)

  -- snapshot isolation: clause 1 makes the views grow, by clause 2 the client's view holds what the commit wrote, and 5 and 7 close no walk
  snapshot-commit : Passes SI g c → SnapshotGraph g → SnapshotGraph (step g (commit c))
  unfolding step
  snapshot-commit (mr, (ryw, (ua, (si, _)))) i = record {
    owned = owned-commit H H' (views-of g) t c.client is-client i.owned Writes grown
        (λ d. held (at_number c.client c.view_after g.views d)) (views-grow g.views c.client c.view_after mr)
        (λ k j w. subst (λ (v : View). held v k j) (sym (at_same c.client c.view_after g.views)) (ryw.0 k j w));
    acyclic = snapshot-stays-acyclic H H' (held (view_before g c)) t Writes grown ua si
        (owned-owns H H' (views-of g) t c.client is-client i.owned) i.acyclic;
  }

  -- serialisability
  dependency-commit : Passes SER g c → Acyclic (D.Dependency H) → Acyclic (D.Dependency (history (step g (commit c)).store))
  unfolding step
  dependency-commit (ser, _) = dependencies-stay-acyclic H H' (held (view_before g c)) t Writes grown ser

-- ---- a taken trace

module _ (t : Trace) (h : Taken t) where
  final-link-means : (kind : LinkKind) (a b : CommitNumber) → LinkOf (final_store t) kind a b → LinkThat (history (final_store t)) (is_rw kind) a b
  final-link-means = link-means (final_store t) (sound-final t h).store

  snapshot-graph : Accepts SI t → SnapshotGraph (final (opening t.keys) t.events)
  snapshot-graph accepts =
      run-keeps (Passes SI) SnapshotGraph (λ g d u _. snapshot-shift g d u) snapshot-commit
      (sound-opening t.keys) h.legal ((accepts-each t h SI).0 accepts) (snapshot-opening t.keys)

  dependencies-acyclic : Accepts SER t → Acyclic (D.Dependency (history (final_store t)))
  dependencies-acyclic accepts =
      run-keeps (Passes SER) (λ g. Acyclic (D.Dependency (history g.store))) (λ g d u _ _. dependency-shift g d u) dependency-commit
      (sound-opening t.keys) h.legal ((accepts-each t h SER).0 accepts) (opening-acyclic _ (opening-history t.keys))

  -- "If snapshot isolation passes, every ring of dependencies in the store has two read-to-overwrite links side by side."
  pub si-rings : Accepts SI t → (kind : LinkKind) (kinds : List LinkKind) (a : CommitNumber)
      → Ring (LinkOf (final_store t)) kind kinds a → T (side_by_side_in_ring is_rw kind kinds)
  si-rings accepts kind kinds a =
      rings-have-RW-side-by-side (history (final_store t)) is_rw (LinkOf (final_store t)) final-link-means (snapshot-graph accepts).acyclic

  -- "If serialisability passes, there is no ring;"
  pub ser-rings : Accepts SER t → (kind : LinkKind) (kinds : List LinkKind) (a : CommitNumber) → ¬ Ring (LinkOf (final_store t)) kind kinds a
  ser-rings accepts kind kinds a =
      no-rings (history (final_store t)) is_rw (LinkOf (final_store t)) final-link-means (dependencies-acyclic accepts)
