-- Visibility on every taken trace (02, E14). Assumes nothing.
use Prim.Native.Nat.{ℕ, suc, ◌<◌}
use native.Mathlib.Omega.{arith}
use mathlib.Core.Path.{subst}
use mathlib.Core.List.{List}
use Rattle.endian.specs.Endian.{Bytes}
use Rattle.store.specs.Store.{Store, opening_store, opening, version, next_number}
use Rattle.store.specs.Update.{step, final}
use Rattle.store.specs.History.{Wrote, Read, held}
use Rattle.store.specs.Sound.{SoundStore}
use Rattle.store.specs.StoredView.{StoredViews}
use Rattle.store.proofs.Sound.{sound-opening}
use Rattle.store.proofs.Run.{each-any, run-keeps}
use Rattle.store.proofs.StoredView.{stored-views}
use Rattle.trace.specs.Format.{Trace}
use Rattle.trace.proofs.WellFormed.{WellFormed}
use Rattle.trace.proofs.Decoded.{decoded-well-formed}
use Rattle.levels.specs.Level.{MR, RYW, UA, SER}
use Rattle.levels.proofs.Levels.{Passes}
use Rattle.answer.specs.Answer.{final_store}
use Rattle.answer.specs.Demand3.{Accepts}
use Rattle.answer.proofs.Taken.{Taken, sound-final}
use Rattle.answer.proofs.Orders.{accepts-each}
use Rattle.answer.proofs.Demand3.{accepted-trace, taken-run}
use Rattle.ordering.proofs.Taken.{numbers-rise, taken-well-formed}
use Rattle.visible.specs.Visible.{LastVisible}
use Rattle.visible.specs.Claim.{Sees, VisibilityClaim, Visibility}
use Rattle.visible.proofs.Seen.{ReadsNewest, reads-newest-opening, reads-newest-commit, Remembers, remembers-opening, remembers-shift, remembers-commit, OwnSeen, own-seen-opening, own-seen-shift, own-seen-commit, WritersSeen, writers-seen-opening, writers-seen-commit, AllSeen, all-seen-opening, all-seen-commit}
use Rattle.visible.proofs.Readers.{read_of}
use Rattle.visible.proofs.Visible.{visible-is, row_is, last-visible}

module _ (t : Trace) (w : WellFormed t) (h : Taken t) where
  abbrev s : Store
  s = final_store t

  sound : SoundStore s
  sound = (sound-final t h).store

  views : StoredViews s
  views = stored-views t.keys h.legal

  -- ---- what the views of its commits hold

  reads-newest : ReadsNewest (final (opening t.keys) t.events)
  unfolding step
  reads-newest =
      run-keeps (λ g c. Unit {0}) ReadsNewest (λ g d u _ _ i. i) (λ g c k f l _. reads-newest-commit g c k f l)
      (sound-opening t.keys) h.legal (each-any (opening t.keys) t.events) (reads-newest-opening t.keys)

  remembers : Accepts MR t → Remembers (final (opening t.keys) t.events)
  remembers a =
      run-keeps (Passes MR) Remembers (λ g d u _. remembers-shift g d u) (λ g c k f l. remembers-commit g c k f l)
      (sound-opening t.keys) h.legal ((accepts-each t h MR).0 a) (remembers-opening t.keys)

  own-seen : Accepts RYW t → OwnSeen (final (opening t.keys) t.events)
  own-seen a =
      run-keeps (Passes RYW) OwnSeen (λ g d u _. own-seen-shift g d u) (λ g c k f l. own-seen-commit g c k f l)
      (sound-opening t.keys) h.legal ((accepts-each t h RYW).0 a) (own-seen-opening t.keys)

  writers-seen : Accepts UA t → WritersSeen (final (opening t.keys) t.events)
  unfolding step
  writers-seen a =
      run-keeps (Passes UA) WritersSeen (λ g d u _ _ i. i) (λ g c k f l. writers-seen-commit g c k f l)
      (sound-opening t.keys) h.legal ((accepts-each t h UA).0 a) (writers-seen-opening t.keys)

  all_seen : Accepts SER t → AllSeen (final (opening t.keys) t.events)
  unfolding step
  all_seen a =
      run-keeps (Passes SER) AllSeen (λ g d u _ _ i. i) (λ g c k f l. all-seen-commit g c k f l)
      (sound-opening t.keys) h.legal ((accepts-each t h SER).0 a) (all-seen-opening t.keys)

  -- ---- so it sees

  -- commit b sees a where its view holds a version by a
  sees : (a b k i : ℕ) → 0 < a → Wrote s a k i → held (s.view_of b) k i → Sees t b a
  sees a b k i p x y = (visible-is s sound a b).1 (p, (k, i, y, x))

  pub visibility-taken : VisibilityClaim t
  unfolding opening opening_store
  visibility-taken = record {
    bits = row_is s sound;
    earlier = λ a b (p, m) x.
        let (q, (k, i, y, z)) = (visible-is s sound a b).0 x in
        let less : (version s k i).writer < b = ((views b p m).exist k i y).1 in
        (q, subst (λ (n : ℕ). n < b) z.1 less);
    reads-last = λ b c e k x v.
        let (i, r, q) = read_of (sound-opening t.keys) h.legal b c e k x v in
        let r' : Read s (suc b) k i = subst (λ (m : ℕ). Read s m k i) (omega arith) r in
        let less : suc b < next_number s = sound.readers (suc b) k i r' in
        let newest = reads-newest (suc b) k i r' in
        subst (LastVisible s (suc b) k) q
        (last-visible s sound (numbers-rise t w h) (taken-well-formed t w h) (suc b) (views (suc b) (omega arith) (omega arith)) k i r'.0 newest.0 newest.1);
    mr-sees = λ acc a b c nb nc m same x.
        let (p, (k, i, y, z)) = (visible-is s sound a b).0 x in
        sees a c k i p z ((remembers acc).1 b c k i nb nc m same y);
    ryw-sees = λ acc a b na nb m same (k, (i, x)). sees a b k i na.0 x ((own-seen acc).1 a b k i na.0 nb m same x);
    ua-sees = λ acc a b k na m (i, x) (j, y). sees a b k i na.0 x (writers-seen acc a b k i j x y m);
    ser-sees = λ acc a b na nb m (k, (i, x)). sees a b k i na.0 x (all_seen acc a b k i nb m x);
  }

pub visibility : (bytes : List ℕ) → Bytes bytes → Visibility bytes
visibility bytes b t e =
    let read = accepted-trace bytes t e in
    let w = decoded-well-formed bytes b t read.0 in
    visibility-taken t w (taken-run t w read.1)
