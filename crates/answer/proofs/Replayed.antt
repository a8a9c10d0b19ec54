-- The replay of a run that serialisability accepts (01, The words of demand 3): from an equal store, each commit is made from a
-- full view and left with one; it is legal, leaves an equal store, and passes every level. Assumes nothing.
use mathlib.Core.Path.{◌≡◌, refl, sym, ap, ◌∙◌, subst, fun_ext}
use mathlib.Core.List.{List, [], ◌∷◌}
use Prim.Native.Nat.{ℕ, suc, ◌+◌, ◌≤◌, ◌<◌}
use native.Mathlib.Omega.{arith}
use lib.ListN.{length}
use Rattle.sets.specs.Set.{below}
use Rattle.sets.proofs.Algebra.{full_is}
use Rattle.dependencies.specs.History.{ReadYourWrites}
use Rattle.store.specs.Limits.{numbers}
use Rattle.store.specs.Store.{Key, CommitNumber, Version, View, Store, Configuration, count, version, next_number, Commit, Event, shift, commit}
use Rattle.store.specs.Update.{newest, update, view_before, store_after, step, final}
use Rattle.store.specs.History.{Wrote, InLog, history, held}
use Rattle.store.proofs.Updated.{at_same, count-update, untouched}
use Rattle.store.specs.View.{IsView, FitsView}
use Rattle.store.specs.Sound.{SoundStore, Sound, WithinKeys}
use Rattle.store.specs.Legal.{LegalShift, LegalCommit}
use Rattle.store.proofs.Sound.{sound-update}
use Rattle.store.proofs.Run.{FitsAll, LegalRun, done, shifts, commits, sound-shifts, sound-commits, Each, commits_in}
use Rattle.levels.specs.Level.{Level, SER, clauses_of}
use Rattle.levels.proofs.Levels.{Passes, every-clause, all_say}
use Rattle.answer.specs.Replay.{full_view, full_shift, full_commit, replay_step, replay_events}
use Rattle.answer.proofs.FullView.{HoldsAll, full-holds-all, full-view}

-- ---- one commit

-- the configuration after the two records of a commit's replay
abbrev pub replayed : Configuration → Commit → Configuration
replayed g c = step (step g (full_shift g c)) (commit (full_commit g c))

-- what the replay of a commit comes to on r, where it was itself made on g
pub record ReplaysCommit (g r : Configuration) (c : Commit) : Type 0 where
  pub shift_fits : FitsView r.store.keys (full_view r.store)
  pub shift-legal : LegalShift r c.client (full_view r.store)
  pub commit-fits : WithinKeys r.store.keys (full_commit r c)
  pub commit-legal : LegalCommit (step r (full_shift r c)) (full_commit r c)
  pub passes : (l : Level) → Passes l (step r (full_shift r c)) (full_commit r c)
  pub sound : Sound (replayed r c)
  pub same_store : store_after g c ≡ (replayed r c).store

-- a view fits into a record
view-fits : {s : Store} {u : View} → IsView s u → FitsView s.keys u
view-fits v = record { word = v.word; beyond = v.beyond }

module _ (g r : Configuration) (c : Commit) (same : g.store ≡ r.store) (sound-g : Sound g) (sound-r : Sound r)
    (fits-g : WithinKeys g.store.keys c) (legal : LegalCommit g c) (ser : Passes SER g c) (room-g : next_number g.store < numbers) where
  abbrev s : Store
  s = r.store

  -- the view that the commit was made on, and the configuration that its replay is made on
  abbrev before : View
  before = view_before g c

  abbrev shifted : Configuration
  shifted = step r (full_shift r c)

  fits : WithinKeys s.keys c
  fits = subst (λ (x : Store). WithinKeys x.keys c) same fits-g

  room : next_number s < numbers
  room = subst (λ (x : Store). next_number x < numbers) same room-g

  -- the shift is legal
  full : IsView s (full_view s)
  full = full-view s sound-r.store (omega (arith, room))

  legal-shift : LegalShift r c.client (full_view s)
  legal-shift = record { view = full; grows = λ k i x. full-holds-all s k i ((sound-r.views c.client).exist k i x) }

  shifted-sound : Sound shifted
  shifted-sound = sound-shifts sound-r legal-shift

  shifted-view : view_before shifted (full_commit r c) ≡ full_view s
  unfolding step
  shifted-view = at_same c.client (full_view s) r.views

  -- the commit was itself made on a full view, so that its replay stores the same view
  before-full : before ≡ full_view s
  before-full =
      let view : IsView s before = subst (λ (x : Store). IsView x before) same (sound-g.views c.client) in
      let all : (k : Key) → HoldsAll s before k = subst (λ (x : Store). (k : Key) → HoldsAll x before k) same (λ k i l. ser.0 _ k i (l, refl)) in
      fun_ext (λ k. (full_is (count s k) (before k) (view.exist k)).1 (all k))

  -- so the stores after are equal again
  store-after : store_after g c ≡ (replayed r c).store
  unfolding step update
  store-after = ap (λ (x : Store). update x before c) same ∙ ap (λ (v : View). update s v c) (before-full ∙ sym shifted-view)

  sound-after : SoundStore (store_after shifted (full_commit r c))
  unfolding step
  sound-after = sound-update s (view_before shifted (full_commit r c)) (full_commit r c) sound-r.store fits.read-keys fits.write-keys

  full-after : IsView (store_after shifted (full_commit r c)) (full_commit r c).view_after
  unfolding step update
  full-after = full-view (store_after shifted (full_commit r c)) sound-after (omega (arith, room))

  fits-commit : WithinKeys s.keys (full_commit r c)
  unfolding step update
  fits-commit = record { read-keys = fits.read-keys; write-keys = fits.write-keys; after = view-fits full-after }

  -- the commit is legal
  legal-commit : LegalCommit shifted (full_commit r c)
  unfolding step update
  legal-commit = record {
    newer = subst (λ (x : Store). (t : CommitNumber) → InLog x c.client t → x.session_of t < c.session) same legal.newer;
    values = λ k x e.
        legal.values k x e
        ∙ ap (λ (y : Store). (version y k (newest before k)).value) same
        ∙ ap (λ (v : View). (version s k (newest v k)).value) (before-full ∙ sym shifted-view);
    view = full-after;
    still = λ k nr nw.
        ap (λ (vs : List Version). below (length vs)) (untouched s (view_before shifted (full_commit r c)) (full_commit r c) k nr nw)
        ∙ ap (λ (v : View). v k) (sym shifted-view);
  }

  -- and passes every level
  passes-all : (l : Level) → Passes l shifted (full_commit r c)
  unfolding step update
  passes-all l =
      all_say shifted (full_commit r c) (every-clause shifted (full_commit r c) (holds-all, tt) (keeps-all, tt) (holds-own, tt)) (clauses_of l)
    where
      holds-all : (a k i : ℕ) → Wrote shifted.store a k i → held (view_before shifted (full_commit r c)) k i
      holds-all a k i w = subst (λ (v : View). held v k i) (sym shifted-view) (full-holds-all s k i w.0)

      keeps-all : (k i : ℕ) → held (view_before shifted (full_commit r c)) k i → held (full_commit r c).view_after k i
      keeps-all k i b =
          let l : i < count shifted.store k = (shifted-sound.views c.client).exist k i b in
          full-holds-all (store_after shifted c) k i (omega (arith, count-update shifted.store (view_before shifted c) c k))

      holds-own : ReadYourWrites (history (store_after shifted (full_commit r c))) (held (full_commit r c).view_after) (next_number shifted.store)
      holds-own =
          let all = full-holds-all (store_after shifted (full_commit r c)) in
          (λ k i w. all k i w.0, λ a o k i w. all k i w.0)

  -- the replay of one commit
  pub replays-commit : ReplaysCommit g r c
  unfolding step
  replays-commit = record {
    shift_fits = view-fits full;
    shift-legal = legal-shift;
    commit-fits = fits-commit;
    commit-legal = legal-commit;
    passes = passes-all;
    sound = sound-commits shifted-sound fits-commit legal-commit;
    same_store = store-after;
  }

-- ---- the whole run

-- what the replay of the records es from r on comes to, where they were themselves made from g on
pub record Replays (g r : Configuration) (es : List Event) : Type 0 where
  pub fits : FitsAll r.store.keys (replay_events r es)
  pub legal : LegalRun r (replay_events r es)
  pub passes : (l : Level) → Each (Passes l) r (replay_events r es)
  pub same_store : (final g es).store ≡ (final r (replay_events r es)).store

-- from equal stores on, by the records in turn
pub replays : (g r : Configuration) (es : List Event) → g.store ≡ r.store → Sound g → Sound r → next_number g.store + commits_in es ≤ numbers
    → LegalRun g es → Each (Passes SER) g es → Replays g r es
unfolding replay_step replay_events final commits_in step update
replays g r [] same h h' few done p = record { fits = tt; legal = done; passes = λ l. tt; same_store = same }
replays g r (shift d u ∷ es) same h h' few (shifts f l n) p =
    let rest = replays (step g (shift d u)) r es same (sound-shifts h l) h' few n p in
    record { fits = rest.fits; legal = rest.legal; passes = rest.passes; same_store = rest.same_store }
replays g r (commit c ∷ es) same h h' few (commits f l n) p =
    let one = replays-commit g r c same h h' f l p.0 (omega arith) in
    let rest = replays (step g (commit c)) (replayed r c) es one.same_store (sound-commits h f l) one.sound (omega arith) n p.1 in
    record {
      fits = (one.shift_fits, (one.commit-fits, rest.fits));
      legal = shifts one.shift_fits one.shift-legal (commits one.commit-fits one.commit-legal rest.legal);
      passes = λ m. (one.passes m, rest.passes m);
      same_store = rest.same_store;
    }

-- the replay has as many commits
pub replay-commits : (r : Configuration) (es : List Event) → commits_in (replay_events r es) ≡ commits_in es
unfolding replay_step replay_events final commits_in
replay-commits r [] = refl
replay-commits r (shift d u ∷ es) = replay-commits r es
replay-commits r (commit c ∷ es) = ap suc (replay-commits (replayed r c) es)
