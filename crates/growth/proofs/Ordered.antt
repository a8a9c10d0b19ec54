-- Commit numbers are in order: along a session, along the versions of a key, and from the writer of a version to its readers. So it is at the opening,
-- and a commit keeps it; and so SO, WR and WW lead from smaller numbers to larger, and SO is the order of numbers. Assumes nothing.
use mathlib.Core.Path.{◌≡◌, refl, sym, ap, ◌∙◌, subst}
use mathlib.Core.Logic.{◌⊎◌, inl, inr, ◌↔◌, ◌≢◌}
use mathlib.Core.List.{List}
use Prim.Native.Nat.{ℕ, ◌≤◌, ◌<◌}
use native.Mathlib.Omega.{arith}
use native.Mathlib.Decide.{dec_lt, ℕ_discrete}
use lib.Dec.{T}
use Rattle.relations.specs.Relation.{alone, followed, Plus, one, more}
use Rattle.dependencies.specs.History.{SO, session-order, WR, write_read, WW, write-write, RW, read-write, PlainLink, by-SO, by-WR, by-WW, PrefixStep, SnapshotStep}
use Rattle.dependencies.proofs.Implications.{snapshot-prefix}
use Rattle.store.specs.Store.{CommitNumber, View, Store, Configuration, opening_store, opening, count, version, next_number, Commit, Event}
use Rattle.store.specs.Update.{reads, writes, newest, update, step, final}
use Rattle.store.specs.History.{Wrote, Read, history}
use Rattle.store.proofs.Updated.{wrote-stays}
use Rattle.store.specs.Sound.{SoundStore, Sound}
use Rattle.store.proofs.Sound.{opening-unread, sound-opening}
use Rattle.store.proofs.Run.{LegalRun, done, shifts, commits, sound-shifts, sound-commits}
use Rattle.store.proofs.Links.{stored-below}
use Rattle.growth.specs.Made.{Made, CommitBy}
use Rattle.growth.proofs.Made.{legal-made, keys-after, number-after, read-exists, wrote_after, read-after, client-kept, client-new, session-kept, session-new}
use Rattle.growth.specs.Ordered.{Ordered}

-- ---- what follows from it

module _ (s : Store) (h : SoundStore s) (o : Ordered s) where
  -- the opening transaction wrote version 0 of each key and nothing else
  pub opening-wrote-first : (k i : ℕ) → Wrote s 0 k i → i ≡ 0
  opening-wrote-first k i w = go (dec_lt 0 i)
    where
      go : Dec (0 < i) → i ≡ 0
      go (no n) = omega arith
      go (yes p) = let l : 0 < 0 = o.writers-rise 0 0 k 0 i (o.first-by-opening k (h.only-keys k i w.0)) w p in absurd (omega arith)

  -- a commit writes a key once
  pub writes-once : (t k i j : ℕ) → Wrote s t k i → Wrote s t k j → i ≡ j
  writes-once t k i j x y = go (dec_lt i j) (dec_lt j i)
    where
      go : Dec (i < j) → Dec (j < i) → i ≡ j
      go (no n) (no n') = omega arith
      go (yes l) d = let z : t < t = o.writers-rise t t k i j x y l in absurd (omega arith)
      go (no n) (yes l) = let z : t < t = o.writers-rise t t k j i y x l in absurd (omega arith)

  -- SO is the order of numbers among the commits of a client
  pub SO-by-number : (a b : CommitNumber) → SO (history s) a b ↔ (CommitBy (history s) (s.client_of b) a × CommitBy (history s) (s.client_of b) b × (a < b))
  SO-by-number a b = (out, λ ((x, p, e), (y, q, _), l). session-order x y p q e (o.sessions-rise a b p l (stored-below s h b y) e))
    where
      out : SO (history s) a b → CommitBy (history s) (s.client_of b) a × CommitBy (history s) (s.client_of b) b × (a < b)
      out (session-order x y p q e l) = ((x, p, e), (y, q, refl), less (dec_lt a b) (dec_lt b a))
        where
          less : Dec (a < b) → Dec (b < a) → a < b
          less (yes r) d = r
          less (no r) (yes r') = let l' : s.session_of b < s.session_of a = o.sessions-rise b a q r' (stored-below s h a x) (sym e) in absurd (omega arith)
          less (no r) (no r') = let z : s.session_of a ≡ s.session_of b = ap s.session_of (omega arith) in absurd (omega arith)

  pub SO-rises : (a b : CommitNumber) → SO (history s) a b → a < b
  SO-rises a b x = ((SO-by-number a b).0 x).2

  pub WR-rises : (a b : CommitNumber) → WR (history s) a b → a < b
  WR-rises a b (write_read {k} {i} w r) = o.readers-follow a b k i w r

  pub WW-rises : (a b : CommitNumber) → WW (history s) a b → a < b
  WW-rises a b (write-write {k} {i} {j} w v l) = o.writers-rise a b k i j w v l

  -- nothing leads to the opening transaction
  no-plain-to-opening : (a : CommitNumber) → ¬ PlainLink (history s) a 0
  no-plain-to-opening a (by-SO x) = let l : a < 0 = SO-rises a 0 x in omega arith
  no-plain-to-opening a (by-WR x) = let l : a < 0 = WR-rises a 0 x in omega arith
  no-plain-to-opening a (by-WW x) = let l : a < 0 = WW-rises a 0 x in omega arith

  no-RW-to-opening : (a : CommitNumber) → ¬ RW (history s) a 0
  no-RW-to-opening a (read-write {k} {i} {j} r w l n) = let e : j ≡ 0 = opening-wrote-first k j w in omega arith

  pub no-snapshot-to-opening : (a : CommitNumber) → ¬ SnapshotStep (history s) a 0
  no-snapshot-to-opening a (alone d) = no-plain-to-opening a d
  no-snapshot-to-opening a (followed d r) = no-RW-to-opening _ r

  pub no-prefix-to-opening : (a : CommitNumber) → ¬ PrefixStep (history s) a 0
  no-prefix-to-opening a x = no-snapshot-to-opening a (snapshot-prefix (history s) a 0 x)

-- so a path from another commit does not pass it
pub path-avoids-opening : {S : ℕ → ℕ → Type 0} → ((a : CommitNumber) → ¬ S a 0) → {a b : CommitNumber} → 0 < a → Plus S a b → Plus (λ x y. (0 < x) × S x y) a b
path-avoids-opening none p (one r) = one (p, r)
path-avoids-opening {S} none {a} {b} p (more {b = c} r q) = more (p, r) (path-avoids-opening none (later (dec_lt 0 c)) q)
  where
    later : Dec (0 < c) → 0 < c
    later (yes l) = l
    later (no n) = absurd (none a (subst (S a) (omega arith) r))

-- ---- at the opening

pub ordered-opening : (keys : ℕ) → Ordered (opening_store keys)
unfolding opening opening_store
ordered-opening keys = record {
  sessions-rise = λ a b p l n e. absurd (omega arith);
  first-by-opening = λ k l.
      let p : 0 < count (opening_store keys) k = sound.some-version k l in
      let w : (version (opening_store keys) k 0).writer < 1 = sound.writers (version (opening_store keys) k 0).writer k 0 (p, refl) in
      (p, omega arith);
  writers-rise = λ a b k i j w v l. let n : j < count (opening_store keys) k = v.0 in let f : count (opening_store keys) k ≤ 1 = sound.few k in absurd (omega arith);
  readers-follow = λ a b k i w r. absurd (opening-unread keys b k i r);
}
  where
    sound : SoundStore (opening_store keys)
    sound = (sound-opening keys).store

-- ---- after a commit

pub ordered-commit : (s : Store) (u : View) (c : Commit) → Made s u c → Ordered s → Ordered (update s u c)
ordered-commit s u c m o = record {
  sessions-rise = λ a b p l n e. session a b p l n e (ℕ_discrete b (next_number s));
  first-by-opening = λ k l. wrote-stays s u c 0 k 0 (o.first-by-opening k (rw (← keys-after s u c m) l));
  writers-rise = λ a b k i j w v l. writer a b k i j l ((wrote_after s u c m a k i).0 w) ((wrote_after s u c m b k j).0 v);
  readers-follow = λ a b k i w r. reader a b k i ((wrote_after s u c m a k i).0 w) ((read-after s u c m b k i).0 r);
}
  where
    session : (a b : CommitNumber) → 0 < a → a < b → b < next_number (update s u c) → (update s u c).client_of a ≡ (update s u c).client_of b → Dec (b ≡ next_number s)
        → (update s u c).session_of a < (update s u c).session_of b
    session a b p l n e (yes z) =
        let na : a ≢ next_number s = λ q. omega arith in
        let by : s.client_of a ≡ c.client = sym (client-kept s u c m na) ∙ e ∙ ap (update s u c).client_of z ∙ client-new s u c m in
        rw (session-kept s u c m na, z, session-new s u c m) (m.newer a (p, omega arith, by))
    session a b p l n e (no nb) =
        let below : b < next_number s = omega (arith, number-after s u c m) in
        let na : a ≢ next_number s = λ q. omega arith in
        rw (session-kept s u c m na, session-kept s u c m nb) (o.sessions-rise a b p l below (sym (client-kept s u c m na) ∙ e ∙ client-kept s u c m nb))

    writer : (a b k i j : ℕ) → i < j → Wrote s a k i ⊎ ((a ≡ next_number s) × T (writes c k) × (i ≡ count s k))
        → Wrote s b k j ⊎ ((b ≡ next_number s) × T (writes c k) × (j ≡ count s k)) → a < b
    writer a b k i j l (inl w) (inl v) = o.writers-rise a b k i j w v l
    writer a b k i j l (inl w) (inr (e, _, _)) = let n : a < next_number s = m.sound.writers a k i w in omega arith
    writer a b k i j l (inr (_, _, e)) (inl v) = let n : j < count s k = v.0 in absurd (omega arith)
    writer a b k i j l (inr (_, _, e)) (inr (_, _, e')) = absurd (omega arith)

    reader : (a b k i : ℕ) → Wrote s a k i ⊎ ((a ≡ next_number s) × T (writes c k) × (i ≡ count s k))
        → Read s b k i ⊎ ((b ≡ next_number s) × T (reads c k) × (i ≡ newest u k)) → a < b
    reader a b k i (inl w) (inl r) = o.readers-follow a b k i w r
    reader a b k i (inl w) (inr (e, _, _)) = let n : a < next_number s = m.sound.writers a k i w in omega arith
    reader a b k i (inr (_, _, e)) (inl r) = let n : i < count s k = r.0 in absurd (omega arith)
    reader a b k i (inr (_, _, e)) (inr (_, r, e')) = let n : newest u k < count s k = read-exists s u c m k r in absurd (omega arith)

-- ---- along a run

pub ordered-run : {g : Configuration} {es : List Event} → Sound g → LegalRun g es → Ordered g.store → Ordered (final g es).store
unfolding final step
ordered-run h done o = o
ordered-run h (shifts f l r) o = ordered-run (sound-shifts h l) r o
ordered-run h (commits f l r) o = ordered-run (sound-commits h f l) r (ordered-commit _ _ _ (legal-made h f l) o)

-- from the opening on
pub ordered-final : (keys : ℕ) {es : List Event} → LegalRun (opening keys) es → Ordered (final (opening keys) es).store
unfolding opening
ordered-final keys r = ordered-run (sound-opening keys) r (ordered-opening keys)
