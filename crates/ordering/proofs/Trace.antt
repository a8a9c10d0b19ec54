-- An order that gives a bare image is a trace that is taken: each of its shifts and commits is legal, and it ends in the store that the run
-- gives. So the run of specs/Order.antt is what 01 does with those commits, and their read values and session numbers are in order. Assumes nothing.
use Prim.Native.Nat.{ℕ, zero, suc, ◌+◌, ◌≤◌, ◌<◌}
use mathlib.Core.Path.{◌≡◌, refl, sym, ap, ◌∙◌, subst}
use mathlib.Core.Logic.{◌≢◌}
use mathlib.Core.Option.{Option, some}
use mathlib.Core.List.{List, [], ◌∷◌, map}
use native.Mathlib.Omega.{arith}
use native.Mathlib.Decide.{ℕ_discrete}
use lib.Dec.{T}
use lib.ListN.{length, get_or}
use Rattle.search.proofs.Tests.{is_some-some}
use Rattle.sets.specs.Set.{below}
use Rattle.store.specs.Store.{Key, CommitNumber, Value, Version, View, Store, Configuration, opening, version, next_number, read, write, Commit, Event, commit}
use Rattle.store.specs.Update.{value_of, reads, writes, newest, at_number, update, view_before, store_after, step, final}
use Rattle.store.proofs.Updated.{at_same, at_other, untouched}
use Rattle.store.specs.View.{IsView, FitsView}
use Rattle.store.specs.Sound.{Sound, WithinKeys}
use Rattle.store.specs.History.{InLog}
use Rattle.store.specs.Legal.{LegalShift, LegalCommit}
use Rattle.store.proofs.Sound.{sound-opening, sound-update}
use Rattle.store.proofs.Run.{LegalRun, done, shifts, commits, sound-shifts, sound-commits}
use Rattle.answer.specs.Replay.{full_view, full_shift, full_commit, replay_step, replay_events}
use Rattle.answer.proofs.Replayed.{replayed}
use Rattle.answer.proofs.FullView.{full-holds-all, full-view}
use Rattle.ordering.specs.Order.{commit_of, name_in, made_after, IsOrder}
use Rattle.ordering.specs.Order.{trace_of}
use Rattle.ordering.proofs.Lists.{none-twice-few}
use Rattle.ordering.proofs.Shape.{WellFormed}
use Rattle.ordering.proofs.Operations.{does-out, does-in}
use Rattle.ordering.proofs.Names.{Names, order-names}
use Rattle.ordering.proofs.Run.{after-keys, after-commits}
use Rattle.ordering.proofs.Ordered.{order-earlier}
use Rattle.ordering.proofs.Serial.{Holds, holds, read-last, reads_at, newest-is}

-- the entry of a table that was changed at one number
entry-is : {w : ℕ} (t v : ℕ) (old : ℕ → ℕ) (j : ℕ) → Dec (j ≡ t) → (j ≡ t → v ≡ w) → (j ≢ t → old j ≡ w) → at_number t v old j ≡ w
entry-is t v old j (yes e) f g = ap (at_number t v old) e ∙ at_same t v old ∙ f e
entry-is t v old j (no n) f g = at_other t v old j n ∙ g n

module _ (s : Store) (h : WellFormed s) (order : List CommitNumber) (o : IsOrder s order) where
  abbrev n : ℕ
  n = length order

  abbrev ν : CommitNumber → CommitNumber
  ν = name_in order

  few : n ≤ 63
  few = omega (arith, none-twice-few s.commits order o.each-once.only-commits o.each-once.none-twice, h.few-commits)

  names : Names s.commits n ν
  names = order-names s.commits order o.each-once

  held_after : (m : ℕ) → m ≤ n → Holds s h ν n few names (order-earlier s h order o) m (made_after s ν m)
  held_after = holds s h ν n few names (order-earlier s h order o)

  -- the tables of the run, by name
  tables_after : (m j : ℕ) → 0 < j → j ≤ m → ((made_after s ν m).client_of j ≡ s.client_of (ν j)) × ((made_after s ν m).session_of j ≡ s.session_of (ν j))
  unfolding made_after update commit_of
  tables_after zero j p l = absurd (omega arith)
  tables_after (suc m) j p l =
      let g = made_after s ν m in
      let e : next_number g ≡ suc m = ap suc (after-commits s ν m) in
      let d = ℕ_discrete j (next_number g) in (
        entry-is (next_number g) (s.client_of (ν (suc m))) g.client_of j d (λ q. ap (λ (x : ℕ). s.client_of (ν x)) (sym (q ∙ e))) (λ q. (tables_after m j p (omega (arith, e))).0),
        entry-is (next_number g) (s.session_of (ν (suc m))) g.session_of j d (λ q. ap (λ (x : ℕ). s.session_of (ν x)) (sym (q ∙ e))) (λ q. (tables_after m j p (omega (arith, e))).1),
      )

  rises : (i j : ℕ) → 0 < i → i < j → j ≤ n → s.client_of (ν i) ≡ s.client_of (ν j) → s.session_of (ν i) < s.session_of (ν j)
  rises zero j p l q e = absurd (omega arith)
  rises (suc i) zero p l q e = absurd (omega arith)
  rises (suc i) (suc j) p l q e = o.in-number-order i j (omega arith) (omega arith) e

  -- ---- one commit

  -- rules 1 and 2 for a commit c made on a full view of the store x
  abbrev Newer : Commit → Store → Type 0
  Newer c x = (t : CommitNumber) → InLog x c.client t → x.session_of t < c.session

  abbrev Values : Commit → Store → Type 0
  Values c x = (k : Key) (y : Value) → value_of read c.operations k ≡ some y → y ≡ (version x k (newest (full_view x) k)).value

  module _ (m : ℕ) (l : m < n) where
    abbrev c : Commit
    c = commit_of s (ν (suc m))

    newer-after : Newer c (made_after s ν m)
    unfolding commit_of
    newer-after t (p, low, e) =
        let b : t ≤ m = omega (arith, low, after-commits s ν m) in
        let tables = tables_after m t p b in
        let up = rises t (suc m) p (omega arith) (omega arith) (sym tables.0 ∙ e) in
        omega (arith, tables.1, up)

    values-after : Values c (made_after s ν m)
    values-after k y e =
        let x = held_after m (omega arith) in
        let r = is_some-some (value_of read c.operations k) y e in
        let at = reads_at s h ν n few names (order-earlier s h order o) m l x k r in
        let last = read-last s h ν n few names (order-earlier s h order o) m l x k at.0 at.1 in
        let new = newest-is s h ν n few names (order-earlier s h order o) m l x k r in
        let i-is : at.0 ≡ newest (full_view (made_after s ν m)) k = omega (arith, last, new) in
        let own = does-in s h.only-keys (ν (suc m)) read k at.0 at.1 (λ j r'. h.reads-once (ν (suc m)) k at.0 j at.1 r') in
        let same : some y ≡ some (version s k at.0).value = sym e ∙ own in
        some_same same ∙ sym (x.value k at.0 (omega (arith, last))) ∙ ap (λ (i : ℕ). (version (made_after s ν m) k i).value) i-is
      where
        some_same : {a b : Value} → ◌≡◌ {A = Option Value} (some a) (some b) → a ≡ b
        some_same q = cc

    -- what the two records of the commit come to on r, whose store is that of the run
    module _ (r : Configuration) (same : r.store ≡ made_after s ν m) (sound : Sound r) where
      abbrev x : Store
      x = r.store

      room : next_number x ≤ 63
      room = subst (λ (y : Store). next_number y ≤ 63) (sym same) (omega (arith, after-commits s ν m, few))

      key_of : (k : Key) → k < s.keys → k < x.keys
      key_of k q = subst (λ (y : Store). k < y.keys) (sym same) (subst (λ (y : ℕ). k < y) (sym (after-keys s ν m)) q)

      abbrev shifted : Configuration
      shifted = step r (full_shift r c)

      legal-shift : LegalShift r c.client (full_view x)
      legal-shift = record { view = full-view x sound.store (omega (arith, room)); grows = λ k i y. full-holds-all x k i ((sound.views c.client).exist k i y) }

      shifted-view : view_before shifted (full_commit r c) ≡ full_view x
      unfolding step
      shifted-view = at_same c.client (full_view x) r.views

      read-keys : (k : Key) → T (reads c k) → k < x.keys
      read-keys k t = key_of k (does-out s h.only-keys (ν (suc m)) read k t).0

      write-keys : (k : Key) → T (writes c k) → k < x.keys
      write-keys k t = key_of k (does-out s h.only-keys (ν (suc m)) write k t).0

      full-after : IsView (store_after shifted (full_commit r c)) (full_commit r c).view_after
      unfolding step update
      full-after =
          full-view (store_after shifted (full_commit r c))
          (sound-update x (view_before shifted (full_commit r c)) (full_commit r c) sound.store read-keys write-keys) (omega (arith, room))

      fits-shift : FitsView x.keys (full_view x)
      fits-shift = let v = legal-shift.view in record { word = v.word; beyond = v.beyond }

      fits-commit : WithinKeys shifted.store.keys (full_commit r c)
      unfolding step update
      fits-commit = record { read-keys = read-keys; write-keys = write-keys; after = record { word = full-after.word; beyond = full-after.beyond } }

      legal-commit : LegalCommit shifted (full_commit r c)
      unfolding step update
      legal-commit = record {
        newer = subst (Newer c) (sym same) newer-after;
        values = λ k y e. subst (Values c) (sym same) values-after k y e ∙ ap (λ (v : View). (version x k (newest v k)).value) (sym shifted-view);
        view = full-after;
        still = λ k nr nw.
            ap (λ (vs : List Version). below (length vs)) (untouched x (view_before shifted (full_commit r c)) (full_commit r c) k nr nw)
            ∙ ap (λ (v : View). v k) (sym shifted-view);
      }

      same_after : (replayed r c).store ≡ made_after s ν (suc m)
      unfolding step update made_after
      same_after = ap (λ (v : View). update x v c) shifted-view ∙ ap (λ (y : Store). update y (full_view y) c) same

      sound-shifted : Sound shifted
      sound-shifted = sound-shifts sound legal-shift

      sound-after : Sound (replayed r c)
      sound-after = sound-commits sound-shifted fits-commit legal-commit

  -- ---- the whole trace

  -- the records of the commits ts from r on
  abbrev records : Configuration → List CommitNumber → List Event
  records r ts = replay_events r (map (λ t. commit (commit_of s t)) ts)

  Runs : Configuration → List CommitNumber → Type 0
  Runs r ts = LegalRun r (records r ts) × ((final r (records r ts)).store ≡ made_after s ν n)

  runs : (ts : List CommitNumber) (m : ℕ) → m + length ts ≡ n → ((i : ℕ) → i < length ts → get_or ts i 0 ≡ ν (suc (m + i)))
      → (r : Configuration) → r.store ≡ made_after s ν m → Sound r → Runs r ts
  unfolding Runs replay_events replay_step final step
  runs [] m e at r same sound = (done, same ∙ ap (made_after s ν) (let q : m ≡ n = omega (arith, e) in q))
  runs (t ∷ ts) m e at r same sound =
      let l : m < n = omega (arith, e) in
      let first : t ≡ ν (suc m) = at 0 (omega arith) ∙ ap (λ (i : ℕ). ν (suc i)) (omega arith) in
      subst (λ (y : CommitNumber). Runs r (y ∷ ts)) (sym first)
      (let rest = runs ts (suc m) (omega (arith, e)) (λ i q. at (suc i) (omega arith) ∙ ap (λ (j : ℕ). ν (suc j)) (omega arith)) (replayed r (commit_of s (ν (suc m))))
      (same_after m l r same sound) (sound-after m l r same sound) in
      (shifts (fits-shift m l r same sound) (legal-shift m l r same sound) (commits (fits-commit m l r same sound) (legal-commit m l r same sound) rest.0), rest.1))

  -- the order is a legal trace, and gives the store of the run
  pub order-taken : LegalRun (opening s.keys) (trace_of s order) × ((final (opening s.keys) (trace_of s order)).store ≡ made_after s ν n)
  unfolding Runs made_after opening
  order-taken = runs order 0 (omega arith) (λ i l. ap (λ (j : ℕ). get_or order j 0) (omega arith)) (opening s.keys) refl (sound-opening s.keys)
