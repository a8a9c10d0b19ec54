-- One legal commit on a sound configuration, as the proofs about rings see it: what it adds to the history of the store. With
-- this the store meets the hypotheses of dependencies. Assumes nothing.
use Prim.Native.Nat.{ℕ, ◌≤◌, ◌<◌}
use native.Mathlib.Omega.{arith}
use mathlib.Core.Path.{◌≡◌, refl, sym, ◌∙◌}
use mathlib.Core.Logic.{◌⊎◌, inl, inr}
use lib.Dec.{T}
use Rattle.sets.specs.Set.{has}
use Rattle.sets.proofs.Laws.{has-large, has-highest, highest-most}
use Rattle.dependencies.proofs.Growth.{OwnWrite, OwnRead, Grown}
use Rattle.store.specs.Store.{Key, View, Store, Configuration, count, next_number, Commit}
use Rattle.store.specs.Update.{reads, writes, newest, view_before, store_after}
use Rattle.store.specs.History.{Wrote, Read, history, held}
use Rattle.store.proofs.Updated.{wrote-update, read-update}
use Rattle.store.specs.Sound.{Sound, WithinKeys}
use Rattle.store.specs.Legal.{LegalCommit}
use Rattle.store.proofs.Links.{reads-written, stored-below}
use Rattle.growth.specs.Made.{Made}
use Rattle.growth.proofs.Made.{legal-made, newer-stored, client-kept, client-new, session-kept, session-new}

module _ (g : Configuration) (c : Commit) (h : Sound g) (f : WithinKeys g.store.keys c) (l : LegalCommit g c) where
  abbrev s : Store
  s = g.store

  abbrev u : View
  u = view_before g c

  pub made : Made g.store (view_before g c) c
  made = legal-made h f l

  -- a key that is read has a mask that holds version 0, so the newest is in it
  newest-held : (k : Key) → T (reads c k) → T (has (u k) (newest u k)) × ((j : ℕ) → T (has (u k) j) → j ≤ newest u k)
  newest-held k r =
      let v = h.views c.client in
      let p : 1 ≤ u k = has-large (u k) 0 (v.opened k (f.read-keys k r)) in
      (has-highest (u k) p (v.word k), highest-most (u k) p (v.word k))

  -- what a legal commit adds to the history
  pub commit-grows : Grown (history s) (history (store_after g c)) (held u) (next_number s) (λ k. T (writes c k))
  commit-grows = record {
    stored-before = stored-below s h.store;
    client-kept = λ a m. client-kept s u c made (omega arith);
    session-kept = λ a m. session-kept s u c made (omega arith);
    written_after = λ a k i w. own-write a k i (wrote-update s u c a k i w);
    read-after = λ a k i r. own_read a k i (read-update s u c a k i r);
    one-write = λ k i j w w'. write-last k i w ∙ sym (write-last k j w');
    reads-written = reads-written s;
    view-written = λ k i x. (_, ((h.views c.client).exist k i x, refl));
    atomic = λ a (k, i, x, w) k' i' w'. (h.views c.client).whole a k i k' i' x w w';
    session-grows = λ a (st, p, e). rw (session-new s u c made) (newer-stored s u c made st p (e ∙ client-new s u c made));
  }
    where
      own-write : (a k i : ℕ) → Wrote s a k i ⊎ ((a ≡ next_number s) × T (writes c k) × (i ≡ count s k))
          → Wrote s a k i ⊎ OwnWrite (history s) (λ k. T (writes c k)) (next_number s) a k i
      own-write a k i (inl x) = inl x
      own-write a k i (inr (e, w, last)) = inr (e, w, λ b j x. let m : j < count s k = x.0 in omega arith)

      own_read : (a k i : ℕ) → Read s a k i ⊎ ((a ≡ next_number s) × T (reads c k) × (i ≡ newest u k))
          → Read s a k i ⊎ OwnRead (held u) (next_number s) a k i
      own_read a k i (inl x) = inl x
      own_read a k i (inr (e, r, n)) = let m = newest-held k r in inr (e, rw n m.0, λ j x. rw n (m.1 j x))

      -- the new commit's versions are the last of their keys
      write-last : (k i : ℕ) → Wrote (store_after g c) (next_number s) k i → i ≡ count s k
      write-last k i w = go (wrote-update s u c (next_number s) k i w)
        where
          go : Wrote s (next_number s) k i ⊎ ((next_number s ≡ next_number s) × T (writes c k) × (i ≡ count s k)) → i ≡ count s k
          go (inl x) = let m : next_number s < next_number s = h.store.writers _ k i x in absurd (omega arith)
          go (inr x) = x.2
