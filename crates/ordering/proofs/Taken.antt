-- The store that a taken trace ends in is well formed, whatever its verdicts (02, E9 asks it of "a trace that SER accepts"): its image is never
-- misshapen. Assumes nothing.
use Prim.Native.Nat.{ℕ, ◌≤◌, ◌<◌}
use mathlib.Core.Path.{◌≡◌, refl, sym, ap, ◌∙◌}
use mathlib.Core.Logic.{◌⊎◌, inl, inr}
use mathlib.Core.List.{List}
use native.Mathlib.Omega.{arith}
use native.Mathlib.Decide.{dec_lt}
use lib.Dec.{T, ltb}
use Rattle.store.specs.Limits.{max_commits}
use Rattle.store.specs.Store.{Key, CommitNumber, Version, View, Store, Configuration, opening_store, opening, count, version, next_number, Commit, Event}
use Rattle.store.specs.Update.{reads, newest, update, step, final}
use Rattle.store.specs.History.{Wrote, Read}
use Rattle.store.specs.Sound.{SoundStore, Sound, WithinKeys}
use Rattle.store.proofs.Updated.{read-update}
use Rattle.store.proofs.Sound.{opening-first, opening-unread, sound-opening, sound-update}
use Rattle.store.proofs.Run.{LegalRun, done, shifts, commits, sound-shifts, sound-commits, final-commits}
use Rattle.trace.specs.Format.{Trace}
use Rattle.trace.proofs.WellFormed.{WellFormed as WellFormedTrace}
use Rattle.growth.specs.Ordered.{Ordered}
use Rattle.growth.proofs.Ordered.{ordered-final, writes-once}
use Rattle.answer.specs.Answer.{final_store}
use Rattle.answer.proofs.Taken.{Taken, sound-final}
use Rattle.answer.proofs.Values.{value-kept}
use Rattle.ordering.specs.Links.{IsCommit}
use Rattle.ordering.specs.Shape.{well_formed}
use Rattle.ordering.proofs.Shape.{WellFormed}
use Rattle.ordering.proofs.Formed.{well-formed-is}

-- what holds of versions along a run, besides the order of numbers
record Kept (s : Store) : Type 0 where
  first-value : (k : Key) → 0 < count s k → (version s k 0).value ≡ 0
  reads-once : (t k i j : ℕ) → Read s t k i → Read s t k j → i ≡ j

kept-opening : (keys : ℕ) → Kept (opening_store keys)
unfolding opening_store
kept-opening keys = record {
  first-value = λ k l. ap (λ (v : Version). v.value) (opening-first (ltb k keys) 0 l).1;
  reads-once = λ t k i j r r'. absurd (opening-unread keys t k i r);
}

kept-update : (s : Store) (u : View) (c : Commit) → SoundStore s → WithinKeys s.keys c → Kept s → Kept (update s u c)
unfolding update
kept-update s u c h f x = record {
  first-value = λ k l. value-kept s u c k 0 (old k l) ∙ x.first-value k (old k l);
  reads-once = λ t k i j r r'. once t k i j (read-update s u c t k i r) (read-update s u c t k j r');
}
  where
    old : (k : Key) → 0 < count (update s u c) k → 0 < count s k
    old k l = h.some-version k ((sound-update s u c h f.read-keys f.write-keys).only-keys k 0 l)

    OrNow : ℕ → ℕ → ℕ → Type 0
    OrNow t k i = Read s t k i ⊎ ((t ≡ next_number s) × T (reads c k) × (i ≡ newest u k))

    once : (t k i j : ℕ) → OrNow t k i → OrNow t k j → i ≡ j
    once t k i j (inl r) (inl r') = x.reads-once t k i j r r'
    once t k i j (inl r) (inr (e, _, q)) = let l = h.readers t k i r in absurd (omega (arith, l))
    once t k i j (inr (e, _, q)) (inl r') = let l = h.readers t k j r' in absurd (omega (arith, l))
    once t k i j (inr (e, _, q)) (inr (e', _, q')) = q ∙ sym q'

kept_run : {g : Configuration} {es : List Event} → Sound g → LegalRun g es → Kept g.store → Kept (final g es).store
unfolding final step
kept_run h done x = x
kept_run h (shifts f l r) x = kept_run (sound-shifts h l) r x
kept_run h (commits f l r) x = kept_run (sound-commits h f l) r (kept-update _ _ _ h.store f x)

module _ (t : Trace) (w : WellFormedTrace t) (h : Taken t) where
  abbrev s : Store
  s = final_store t

  kept : Kept s
  unfolding opening
  kept = kept_run (sound-opening t.keys) h.legal (kept-opening t.keys)

  sound : SoundStore s
  sound = (sound-final t h).store

  pub numbers-rise : Ordered s
  numbers-rise = ordered-final t.keys h.legal

  few : s.commits ≤ max_commits
  unfolding opening opening_store
  few = omega (arith, final-commits (opening t.keys) t.events, w.few-commits)

  pub taken-well-formed : WellFormed s
  taken-well-formed = record {
    few-commits = few;
    only-keys = sound.only-keys;
    some-version = sound.some-version;
    first-value = kept.first-value;
    first-writer = λ k l. (first k l).1;
    writers = λ k i p l. (numbers-rise.writers-rise 0 (version s k i).writer k 0 i (first k (omega arith)) (l, refl) p, below (sound.writers (version s k i).writer k i (l, refl)));
    readers = λ k i c l r. (above (numbers-rise.readers-follow (version s k i).writer c k i (l, refl) (l, r)), below (sound.readers c k i (l, r)));
    writes-once = λ k i j l m e. writes-once s sound numbers-rise (version s k j).writer k i j (l, e) (m, refl);
    reads-once = λ c k i j r r'. kept.reads-once c k i j r r';
    entries = λ a b ca cb e q. same a b ca cb e q (dec_lt a b) (dec_lt b a);
  }
    where
      first : (k : Key) → 0 < count s k → Wrote s 0 k 0
      first k l = numbers-rise.first-by-opening k (sound.only-keys k 0 l)

      below : {c : ℕ} → c < next_number s → c ≤ s.commits
      below l = omega arith

      above : {a c : ℕ} → a < c → 0 < c
      above l = omega arith

      same : (a b : CommitNumber) → IsCommit s.commits a → IsCommit s.commits b → s.client_of a ≡ s.client_of b → s.session_of a ≡ s.session_of b
          → Dec (a < b) → Dec (b < a) → a ≡ b
      same a b ca cb e q (yes l) d = let z = numbers-rise.sessions-rise a b ca.0 l (let m = cb.1 in omega (arith, m)) e in absurd (omega (arith, z))
      same a b ca cb e q (no l) (yes m) = let z = numbers-rise.sessions-rise b a cb.0 m (let o = ca.1 in omega (arith, o)) (sym e) in absurd (omega (arith, z))
      same a b ca cb e q (no l) (no m) = omega arith

  -- the test says so
  pub taken-test : T (well_formed s)
  taken-test = (well-formed-is s sound.only-keys).1 taken-well-formed
