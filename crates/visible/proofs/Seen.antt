-- What the views of a run's commits hold, commit by commit: always, and where each commit passes MR, RYW, UA or SER. Each fact holds at the opening, and
-- a shift and a commit keep it. Assumes nothing.
use Prim.Native.Nat.{ℕ, suc, ◌≤◌, ◌<◌}
use native.Mathlib.Omega.{arith}
use native.Mathlib.Decide.{ℕ_discrete}
use mathlib.Core.Path.{◌≡◌, sym, ap, ◌∙◌, subst}
use mathlib.Core.Logic.{◌⊎◌, inl, inr, ◌≢◌}
use lib.Dec.{T}
use Rattle.dependencies.specs.History.{as-writer}
use Rattle.dependencies.proofs.Growth.{OwnRead, Grown}
use Rattle.store.specs.Store.{CommitNumber, Client, View, Store, Configuration, opening_store, opening, count, next_number, Commit, shift, commit}
use Rattle.store.specs.Update.{writes, at_number, update, view_before, store_after, step}
use Rattle.store.specs.History.{Wrote, Read, history, held}
use Rattle.store.specs.Sound.{Sound, WithinKeys}
use Rattle.store.specs.Legal.{LegalShift, LegalCommit}
use Rattle.store.proofs.Updated.{at_same, at_other, wrote-update}
use Rattle.store.proofs.Sound.{opening-unread, wrote-old}
use Rattle.store.proofs.Opening.{opening-history}
use Rattle.levels.specs.Level.{MR, RYW, UA, SER}
use Rattle.levels.proofs.Levels.{Passes}
use Rattle.growth.proofs.Made.{client-new}
use Rattle.answer.proofs.Graph.{made, commit-grows}
use Rattle.answer.proofs.OwnWrites.{OwnHeld, own-opening, own-shift, own-commit}
use Rattle.ordering.specs.Links.{IsCommit}

-- what holds of an entry of a table, by whether it was changed
at-ind : {A : Type 0} (P : A → Type 0) (n : ℕ) (a : A) (f : ℕ → A) (m : ℕ) → (m ≡ n → P a) → (m ≢ n → P (f m)) → P (at_number n a f m)
at-ind P n a f m here there = go (ℕ_discrete m n)
  where
    go : Dec (m ≡ n) → P (at_number n a f m)
    go (yes e) = subst P (sym (ap (at_number n a f) e ∙ at_same n a f)) (here e)
    go (no x) = subst P (sym (at_other n a f m x)) (there x)

-- ---- the facts

-- the view of a commit is that of its store; b is one of its commits
abbrev seen_by : Configuration → CommitNumber → View
seen_by g b = g.store.view_of b

abbrev Numbered : Configuration → CommitNumber → Type 0
Numbered g b = IsCommit g.store.commits b

abbrev Same : Configuration → CommitNumber → CommitNumber → Type 0
Same g a b = g.store.client_of a ≡ g.store.client_of b

-- always: a version that a commit read is the newest that its view holds
abbrev pub ReadsNewest : Configuration → Type 0
ReadsNewest g = (b k i : ℕ) → Read g.store b k i → held (seen_by g b) k i × ((j : ℕ) → held (seen_by g b) k j → j ≤ i)

-- MR: the view of a commit's client holds what the commit saw; so does the view of each later commit of that client
abbrev pub Remembers : Configuration → Type 0
Remembers g =
    ((b k i : ℕ) → Numbered g b → held (seen_by g b) k i → held (g.views (g.store.client_of b)) k i)
    × ((a b k i : ℕ) → Numbered g a → Numbered g b → a < b → Same g a b → held (seen_by g a) k i → held (seen_by g b) k i)

-- RYW: the view of a commit holds what earlier commits of its client wrote
abbrev pub OwnSeen : Configuration → Type 0
OwnSeen g = OwnHeld g × ((a b k i : ℕ) → 0 < a → Numbered g b → a < b → Same g a b → Wrote g.store a k i → held (seen_by g b) k i)

-- UA: the view of a writer of a key holds the versions of it by earlier writers
abbrev pub WritersSeen : Configuration → Type 0
WritersSeen g = (a b k i j : ℕ) → Wrote g.store a k i → Wrote g.store b k j → a < b → held (seen_by g b) k i

-- SER: the view of a commit holds every version by an earlier commit
abbrev pub AllSeen : Configuration → Type 0
AllSeen g = (a b k i : ℕ) → Numbered g b → a < b → Wrote g.store a k i → held (seen_by g b) k i

-- ---- a commit

module _ (g : Configuration) (c : Commit) (h : Sound g) (f : WithinKeys g.store.keys c) (l : LegalCommit g c) where
  abbrev s : Store
  s = g.store

  abbrev u : View
  u = view_before g c

  abbrev s' : Store
  s' = store_after g c

  abbrev t : CommitNumber
  t = next_number g.store

  grown : Grown (history s) (history s') (held u) t (λ k. T (writes c k))
  grown = commit-grows g c h f l

  new-client : s'.client_of t ≡ c.client
  new-client = client-new s u c (made g c h f l)

  -- the views of the store after it: that of the new commit is the view before it
  abbrev seen_after : CommitNumber → View
  seen_after = at_number (next_number g.store) (view_before g c) g.store.view_of

  -- a commit of the new store that is not the new one is one of the old store
  old-number : (b : ℕ) → b ≤ suc s.commits → b ≢ t → b ≤ s.commits
  old-number b m n = go (ℕ_discrete b t)
    where
      go : Dec (b ≡ t) → b ≤ s.commits
      go (yes e) = absurd (n e)
      go (no x) = omega arith

  pub reads-newest-commit : ReadsNewest g → ReadsNewest (step g (commit c))
  unfolding step update
  reads-newest-commit before b k j r = go (grown.read-after b k j r)
    where
      Newest : View → Type 0
      Newest v = held v k j × ((m : ℕ) → held v k m → m ≤ j)

      go : Read s b k j ⊎ OwnRead (held u) t b k j → Newest (seen_after b)
      go (inl r) = at-ind Newest t u s.view_of b (λ e. let x : b < t = h.store.readers b k j r in absurd (omega arith)) (λ x. before b k j r)
      go (inr (e, x, most)) = at-ind Newest t u s.view_of b (λ _. (x, most)) (λ n. absurd (n e))

  pub remembers-commit : Passes MR g c → Remembers g → Remembers (step g (commit c))
  unfolding step update
  remembers-commit (mr, _) (held_by, held-later) = (
    λ b k i n. at-ind (λ (v : View). held v k i → held (at_number c.client c.view_after g.views (s'.client_of b)) k i) t u s.view_of b
        (λ e x. at-ind (λ (v : View). held v k i) c.client c.view_after g.views (s'.client_of b) (λ _. mr k i x) (λ m. absurd (m (ap s'.client_of e ∙ new-client))))
        (λ e x.
        let n' = old-number b n.1 e in
        let y = held_by b k i (n.0, n') x in
        let kept : s'.client_of b ≡ s.client_of b = grown.client-kept b (omega arith) in
        at-ind (λ (v : View). held v k i) c.client c.view_after g.views (s'.client_of b)
        (λ q. mr k i (subst (λ (d : Client). held (g.views d) k i) (sym kept ∙ q) y)) (λ _. subst (λ (d : Client). held (g.views d) k i) (sym kept) y)),
    λ a b k i na nb m same x.
        let less : a < t = let y : b ≤ suc s.commits = nb.1 in omega arith in
        let kept : s'.client_of a ≡ s.client_of a = grown.client-kept a less in
        let x' : held (s.view_of a) k i = at-ind (λ (v : View). held v k i → held (s.view_of a) k i) t u s.view_of a (λ e. absurd (omega arith)) (λ _ y. y) x in
        at-ind (λ (v : View). held v k i) t u s.view_of b
        (λ e. subst (λ (d : Client). held (g.views d) k i) (sym kept ∙ same ∙ ap s'.client_of e ∙ new-client) (held_by a k i (na.0, omega arith) x'))
        (λ e.
        let n' = old-number b nb.1 e in
        let kept_b : s'.client_of b ≡ s.client_of b = grown.client-kept b (omega arith) in
        held-later a b k i (na.0, omega arith) (nb.0, n') m (sym kept ∙ same ∙ kept_b) x'),
  )

  pub own-seen-commit : Passes RYW g c → OwnSeen g → OwnSeen (step g (commit c))
  unfolding step update
  own-seen-commit (ryw, _) (own, seen) = (
    own-commit g c h f l ryw own,
    λ a b k i p n m same w.
        let less : a < t = let y : b ≤ suc s.commits = n.1 in omega arith in
        let kept : s'.client_of a ≡ s.client_of a = grown.client-kept a less in
        let w' = wrote-old s u c h.store a k i w (λ e. absurd (omega arith)) in
        at-ind (λ (v : View). held v k i) t u s.view_of b
        (λ e. own c.client a (as-writer {k = k} {i = i} w', p, sym kept ∙ same ∙ ap s'.client_of e ∙ new-client) k i w')
        (λ e.
        let n' = old-number b n.1 e in
        let kept_b : s'.client_of b ≡ s.client_of b = grown.client-kept b (omega arith) in
        seen a b k i p (n.0, n') m (sym kept ∙ same ∙ kept_b) w'),
  )

  pub writers-seen-commit : Passes UA g c → WritersSeen g → WritersSeen (step g (commit c))
  unfolding step update
  writers-seen-commit (ua, _) seen a b k i j w w' m = go (wrote-update s u c b k j w')
    where
      go : Wrote s b k j ⊎ ((b ≡ t) × T (writes c k) × (j ≡ count s k)) → held (seen_after b) k i
      go (inl x) =
          let n : b < t = h.store.writers b k j x in
          at-ind (λ (v : View). held v k i) t u s.view_of b (λ e. absurd (omega arith))
          (λ _. seen a b k i j (wrote-old s u c h.store a k i w (λ e. absurd (omega arith))) x m)
      go (inr (e, x, _)) =
          at-ind (λ (v : View). held v k i) t u s.view_of b (λ _. ua a k i x (wrote-old s u c h.store a k i w (λ q. absurd (omega arith)))) (λ n. absurd (n e))

  pub all-seen-commit : Passes SER g c → AllSeen g → AllSeen (step g (commit c))
  unfolding step update
  all-seen-commit (ser, _) seen a b k i n m w =
      let less : a < t = let y : b ≤ suc s.commits = n.1 in omega arith in
      let w' = wrote-old s u c h.store a k i w (λ e. absurd (omega arith)) in
      at-ind (λ (v : View). held v k i) t u s.view_of b (λ e. ser a k i w') (λ e. seen a b k i (n.0, old-number b n.1 e) m w')

-- ---- the opening

none-numbered : {A : Type 0} (keys b : ℕ) → Numbered (opening keys) b → A
unfolding opening opening_store
none-numbered keys b n = let l : 0 < b = n.0 in let m : b ≤ 0 = n.1 in absurd (omega arith)

pub reads-newest-opening : (keys : ℕ) → ReadsNewest (opening keys)
unfolding opening
reads-newest-opening keys b k i r = absurd (opening-unread keys b k i r)

pub remembers-opening : (keys : ℕ) → Remembers (opening keys)
remembers-opening keys = (λ b k i n. none-numbered keys b n, λ a b k i n. none-numbered keys a n)

pub own-seen-opening : (keys : ℕ) → OwnSeen (opening keys)
own-seen-opening keys = (own-opening keys, λ a b k i p n. none-numbered keys b n)

pub writers-seen-opening : (keys : ℕ) → WritersSeen (opening keys)
writers-seen-opening keys a b k i j w w' m = let e : b ≡ 0 = ((opening-history keys).only-first b k j w').0 in absurd (omega arith)

pub all-seen-opening : (keys : ℕ) → AllSeen (opening keys)
all-seen-opening keys a b k i n = none-numbered keys b n

-- ---- a shift, where the views of clients matter

pub remembers-shift : (g : Configuration) (d : Client) (u : View) → LegalShift g d u → Remembers g → Remembers (step g (shift d u))
unfolding step
remembers-shift g d u l (held_by, held-later) = (
  λ b k i n x. at-ind (λ (v : View). held v k i) d u g.views (g.store.client_of b)
      (λ q. l.grows k i (subst (λ (e : Client). held (g.views e) k i) q (held_by b k i n x))) (λ _. held_by b k i n x),
  held-later,
)

pub own-seen-shift : (g : Configuration) (d : Client) (u : View) → LegalShift g d u → OwnSeen g → OwnSeen (step g (shift d u))
unfolding step
own-seen-shift g d u l (own, seen) = (own-shift g d u l own, seen)
