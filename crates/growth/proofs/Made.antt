-- A commit that is made on a view of a store: the hypotheses of this crate, once, and what the commit adds to the sets of commits in the store, of
-- writers, of readers and of each client's commits. The new commit is number `next_number s`. Assumes nothing.
use mathlib.Core.Path.{◌≡◌, refl, sym, ap, ◌∙◌}
use mathlib.Core.Logic.{◌⊎◌, inl, inr, ◌↔◌, ◌≢◌}
use Prim.Native.Nat.{ℕ, suc, ◌^◌, ◌≤◌, ◌<◌}
use native.Mathlib.Omega.{arith}
use lib.Dec.{T}
use lib.Pow.{pow_pos}
use Rattle.search.proofs.Tests.{both}
use Rattle.sets.specs.Set.{has}
use Rattle.sets.proofs.Laws.{has-large, has-highest}
use Rattle.dependencies.specs.History.{History, Stored, as-writer, as-reader}
use Rattle.store.specs.Store.{Key, VersionNumber, CommitNumber, Client, View, Store, Configuration, count, next_number, Commit}
use Rattle.store.specs.Update.{reads, writes, newest, update, view_before}
use Rattle.store.specs.History.{Wrote, Read, Appears, history}
use Rattle.store.proofs.Updated.{at_same, at_other, wrote-update-is, read-update-is}
use Rattle.store.specs.Sound.{SoundStore, Sound, WithinKeys}
use Rattle.store.specs.Legal.{LegalCommit}
use Rattle.store.proofs.Sound.{sound-update}
use Rattle.store.proofs.Links.{appears-stored, stored-below}
use Rattle.growth.specs.Made.{Made, Operates, Writes, WriterOf, ReaderOf, Writer, CommitBy}

-- as a legal commit is on the view of its client
pub legal-made : {g : Configuration} {c : Commit} → Sound g → WithinKeys g.store.keys c → LegalCommit g c → Made g.store (view_before g c) c
legal-made {g} {c} h f l = record { sound = h.store; view = h.views c.client; fits = f; newer = l.newer }

-- ---- what the commit adds to them

-- the history after the commit
abbrev pub after : Store → View → Commit → History
after s u c = history (update s u c)

-- what is so of each version that it was so of, and of version n where A and B hold, is so of some version where it was, or where these hold
some-version-after : {P P' : VersionNumber → Type 0} {A B : Type 0} (n : VersionNumber) → ((i : VersionNumber) → P' i ↔ (P i ⊎ (A × B × (i ≡ n))))
    → ((i : VersionNumber) × P' i) ↔ (((i : VersionNumber) × P i) ⊎ (A × B))
some-version-after {P} {P'} {A} {B} n is = (λ (i, x). out i ((is i).0 x), back)
  where
    out : (i : VersionNumber) → P i ⊎ (A × B × (i ≡ n)) → ((i : VersionNumber) × P i) ⊎ (A × B)
    out i (inl x) = inl (i, x)
    out i (inr (a, b, _)) = inr (a, b)

    back : ((i : VersionNumber) × P i) ⊎ (A × B) → (i : VersionNumber) × P' i
    back (inl (i, x)) = (i, (is i).1 (inl x))
    back (inr (a, b)) = (n, (is n).1 (inr (a, b, refl)))

module _ (s : Store) (u : View) (c : Commit) (m : Made s u c) where
  pub keys-after : (update s u c).keys ≡ s.keys
  unfolding update
  keys-after = refl

  pub number-after : next_number (update s u c) ≡ suc (next_number s)
  unfolding update
  number-after = refl

  pub sound-after : SoundStore (update s u c)
  sound-after = sound-update s u c m.sound m.fits.read-keys m.fits.write-keys

  -- the version that the commit reads is held, so it is there
  pub read_held : (k : Key) → T (reads c k) → T (has (u k) (newest u k))
  read_held k r =
      let l : 2 ^ 0 ≤ u k = has-large (u k) 0 (m.view.opened k (m.fits.read-keys k r)) in
      has-highest (u k) (omega (arith, pow_pos 0)) (m.view.word k)

  pub read-exists : (k : Key) → T (reads c k) → newest u k < count s k
  read-exists k r = m.view.exist k (newest u k) (read_held k r)

  -- the number of a commit in the store is below that of the commit, as that of any earlier one of its client
  pub newer-stored : {t : CommitNumber} → Stored (history s) t → 0 < t → s.client_of t ≡ c.client → s.session_of t < c.session
  newer-stored {t} x p e = m.newer t (p, stored-below s m.sound t x, e)

  -- versions and their writers, and their readers
  pub wrote_after : (t k i : ℕ) → Wrote (update s u c) t k i ↔ (Wrote s t k i ⊎ ((t ≡ next_number s) × T (writes c k) × (i ≡ count s k)))
  wrote_after = wrote-update-is s u c

  pub read-after : (t k i : ℕ) → Read (update s u c) t k i ↔ (Read s t k i ⊎ ((t ≡ next_number s) × T (reads c k) × (i ≡ newest u k)))
  read-after = read-update-is s u c read-exists

  -- the new number is no commit of the store before
  pub stored-not-new : {t : CommitNumber} → Stored (history s) t → t ≢ next_number s
  stored-not-new {t} x e = let l : t < next_number s = stored-below s m.sound t x in omega arith

  pub new-not-stored : ¬ Stored (history s) (next_number s)
  new-not-stored x = stored-not-new x refl

  -- writers and readers of a key
  pub writer-of-after : (k t : ℕ) → WriterOf (after s u c) k t ↔ (WriterOf (history s) k t ⊎ ((t ≡ next_number s) × T (writes c k)))
  writer-of-after k t = some-version-after (count s k) (wrote_after t k)

  pub reader-of-after : (k t : ℕ) → ReaderOf (after s u c) k t ↔ (ReaderOf (history s) k t ⊎ ((t ≡ next_number s) × T (reads c k)))
  reader-of-after k t = some-version-after (newest u k) (read-after t k)

  -- writers of some key
  pub writer-after : (t : CommitNumber) → Writer (after s u c) t ↔ (Writer (history s) t ⊎ ((t ≡ next_number s) × Writes c))
  writer-after t = (λ (k, w). out k ((writer-of-after k t).0 w), back)
    where
      out : (k : Key) → WriterOf (history s) k t ⊎ ((t ≡ next_number s) × T (writes c k)) → Writer (history s) t ⊎ ((t ≡ next_number s) × Writes c)
      out k (inl w) = inl (k, w)
      out k (inr (e, w)) = inr (e, (k, w))

      back : Writer (history s) t ⊎ ((t ≡ next_number s) × Writes c) → Writer (after s u c) t
      back (inl (k, w)) = (k, (writer-of-after k t).1 (inl w))
      back (inr (e, (k, w))) = (k, (writer-of-after k t).1 (inr (e, w)))

  -- commits in the store: the new one exactly if it has an operation
  pub stored-after : (t : CommitNumber) → Stored (after s u c) t ↔ (Stored (history s) t ⊎ ((t ≡ next_number s) × Operates c))
  stored-after t = (out, back)
    where
      written : (k i : ℕ) → Wrote s t k i ⊎ ((t ≡ next_number s) × T (writes c k) × (i ≡ count s k)) → Stored (history s) t ⊎ ((t ≡ next_number s) × Operates c)
      written k i (inl w) = inl (as-writer {k = k} {i = i} w)
      written k i (inr (e, w, _)) = inr (e, (k, inr w))

      read : (k i : ℕ) → Read s t k i ⊎ ((t ≡ next_number s) × T (reads c k) × (i ≡ newest u k)) → Stored (history s) t ⊎ ((t ≡ next_number s) × Operates c)
      read k i (inl r) = inl (as-reader {k = k} {i = i} r)
      read k i (inr (e, r, _)) = inr (e, (k, inl r))

      out : Stored (after s u c) t → Stored (history s) t ⊎ ((t ≡ next_number s) × Operates c)
      out (as-writer {k} {i} w) = written k i ((wrote_after t k i).0 w)
      out (as-reader {k} {i} r) = read k i ((read-after t k i).0 r)

      back : Stored (history s) t ⊎ ((t ≡ next_number s) × Operates c) → Stored (after s u c) t
      back (inl (as-writer {k} {i} w)) = as-writer {k = k} {i = i} ((wrote_after t k i).1 (inl w))
      back (inl (as-reader {k} {i} r)) = as-reader {k = k} {i = i} ((read-after t k i).1 (inl r))
      back (inr (e, (k, inl r))) = as-reader {k = k} ((reader-of-after k t).1 (inr (e, r))).1
      back (inr (e, (k, inr w))) = as-writer {k = k} ((writer-of-after k t).1 (inr (e, w))).1

  pub appears-after : (t : CommitNumber) → Appears (update s u c) t ↔ (Appears s t ⊎ ((t ≡ next_number s) × Operates c))
  appears-after t = both (appears-stored (update s u c) t) (both (stored-after t) (out, back))
    where
      out : Stored (history s) t ⊎ ((t ≡ next_number s) × Operates c) → Appears s t ⊎ ((t ≡ next_number s) × Operates c)
      out (inl x) = inl ((appears-stored s t).1 x)
      out (inr x) = inr x

      back : Appears s t ⊎ ((t ≡ next_number s) × Operates c) → Stored (history s) t ⊎ ((t ≡ next_number s) × Operates c)
      back (inl x) = inl ((appears-stored s t).0 x)
      back (inr x) = inr x

  -- the tables: older commits keep their client and session number
  pub client-kept : {t : CommitNumber} → t ≢ next_number s → (update s u c).client_of t ≡ s.client_of t
  unfolding update
  client-kept {t} n = at_other (next_number s) c.client s.client_of t n

  pub client-new : (update s u c).client_of (next_number s) ≡ c.client
  unfolding update
  client-new = at_same (next_number s) c.client s.client_of

  pub session-kept : {t : CommitNumber} → t ≢ next_number s → (update s u c).session_of t ≡ s.session_of t
  unfolding update
  session-kept {t} n = at_other (next_number s) c.session s.session_of t n

  pub session-new : (update s u c).session_of (next_number s) ≡ c.session
  unfolding update
  session-new = at_same (next_number s) c.session s.session_of

  -- the commits of a client
  pub commit-by-after : (d : Client) (t : CommitNumber) → CommitBy (after s u c) d t ↔ (CommitBy (history s) d t ⊎ ((t ≡ next_number s) × Operates c × (c.client ≡ d)))
  commit-by-after d t = (λ (x, p, e). out p e ((stored-after t).0 x), back)
    where
      out : 0 < t → (update s u c).client_of t ≡ d → Stored (history s) t ⊎ ((t ≡ next_number s) × Operates c) → CommitBy (history s) d t ⊎ ((t ≡ next_number s) × Operates c × (c.client ≡ d))
      out p e (inl x) = inl (x, p, sym (client-kept (stored-not-new x)) ∙ e)
      out p e (inr (q, o)) = inr (q, o, sym client-new ∙ ap (update s u c).client_of (sym q) ∙ e)

      back : CommitBy (history s) d t ⊎ ((t ≡ next_number s) × Operates c × (c.client ≡ d)) → CommitBy (after s u c) d t
      back (inl (x, p, e)) = ((stored-after t).1 (inl x), p, client-kept (stored-not-new x) ∙ e)
      back (inr (q, o, e)) = ((stored-after t).1 (inr (q, o)), omega arith, ap (update s u c).client_of q ∙ client-new ∙ e)
