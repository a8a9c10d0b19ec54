-- What clause 2 keeps, by itself (02, E4): each client's view holds what its commits wrote. A commit with operations stands in SO after every earlier commit
-- of its client, and at a key without an operation the view stays as it was. Assumes nothing.
use Prim.Native.Nat.{ℕ}
use native.Mathlib.Omega.{arith}
use mathlib.Core.Path.{◌≡◌, refl, sym, subst}
use mathlib.Core.Logic.{◌⊎◌, inl, inr}
use lib.Dec.{T, eqb}
use Rattle.search.proofs.Choose.{choose-ind}
use Rattle.search.proofs.Tests.{T?, or_left, or_right, or_cases, eq_is}
use Rattle.sets.specs.Set.{has}
use Rattle.dependencies.specs.History.{SO, session-order, AllOf, ReadYourWrites}
use Rattle.store.specs.Store.{CommitNumber, Client, View, Store, Configuration, opening, next_number, Commit, shift, commit}
use Rattle.store.specs.Update.{reads, writes, touches, at_number, view_before, store_after, step}
use Rattle.store.specs.History.{Wrote, history, held}
use Rattle.store.specs.Sound.{Sound, WithinKeys}
use Rattle.store.specs.Legal.{LegalShift, LegalCommit}
use Rattle.store.proofs.Updated.{at_same}
use Rattle.store.proofs.Sound.{wrote-old}
use Rattle.store.proofs.Opening.{opening-history}
use Rattle.growth.specs.Made.{Operates, CommitBy}
use Rattle.growth.specs.Links.{FromSession}
use Rattle.growth.proofs.Made.{stored-not-new, new-not-stored, commit-by-after}
use Rattle.growth.proofs.Links.{SO-after}
use Rattle.answer.proofs.Graph.{made}
use Rattle.answer.proofs.Rings.{views-grow}

-- the opening transaction has no client
abbrev pub OwnHeld : Configuration → Type 0
OwnHeld g = (d : Client) (a : CommitNumber) → CommitBy (history g.store) d a → AllOf (history g.store) (held (g.views d)) a

pub own-opening : (keys : ℕ) → OwnHeld (opening keys)
own-opening keys d a (_, p, _) k i w = let e : a ≡ 0 = ((opening-history keys).only-first a k i w).0 in absurd (omega arith)

pub own-shift : (g : Configuration) (d : Client) (u : View) → LegalShift g d u → OwnHeld g → OwnHeld (step g (shift d u))
unfolding step
own-shift g d u l own e a b k i w = views-grow g.views d u l.grows e k i (own e a b k i w)

module _ (g : Configuration) (c : Commit) (h : Sound g) (f : WithinKeys g.store.keys c) (l : LegalCommit g c) where
  abbrev s : Store
  s = g.store

  abbrev u : View
  u = view_before g c

  abbrev t : CommitNumber
  t = next_number g.store

  -- what a commit before this one wrote was there before
  written-before : (d a k i : ℕ) → CommitBy (history s) d a → Wrote (store_after g c) a k i → Wrote s a k i
  written-before d a k i b w = wrote-old s u c h.store a k i w (stored-not-new s u c (made g c h f l) b.0)

  -- the view before holds what the commits before this one in SO wrote
  pub session-held : OwnHeld g → (a : CommitNumber)
      → SO (history (store_after g c)) a (next_number g.store) → AllOf (history (store_after g c)) (held (view_before g c)) a
  session-held own a o k i w = go ((SO-after s u c (made g c h f l) a t).0 o)
    where
      go : SO (history s) a t ⊎ ((t ≡ t) × FromSession s c a) → held u k i
      go (inl (session-order _ y _ _ _ _)) = absurd (new-not-stored s u c (made g c h f l) y)
      go (inr (_, (_, b))) = own c.client a b k i (written-before c.client a k i b w)

  -- clause 2 alone keeps it
  pub own-commit : ReadYourWrites (history (store_after g c)) (held c.view_after) (next_number g.store) → OwnHeld g → OwnHeld (step g (commit c))
  unfolding step
  own-commit ryw own d a b k i w = go ((commit-by-after s u c (made g c h f l) d a).0 b)
    where
      mine : CommitBy (history s) c.client a → Dec (T (touches c k)) → held c.view_after k i
      mine x (yes o) = ryw.1 a ((SO-after s u c (made g c h f l) a t).1 (inr (refl, ((k, or_cases (reads c k) (writes c k) o), x)))) k i w
      mine x (no n) =
          subst (λ (m : ℕ). T (has m i)) (sym (l.still k (λ r. n (or_left (reads c k) (writes c k) r)) (λ v. n (or_right (reads c k) (writes c k) v))))
          (own c.client a x k i (written-before c.client a k i x w))

      go : CommitBy (history s) d a ⊎ ((a ≡ t) × Operates c × (c.client ≡ d)) → held (at_number c.client c.view_after g.views d) k i
      go (inl x) =
          choose-ind (λ (v : View). held v k i) (eqb d c.client) c.view_after (g.views d)
          (λ q. mine (subst (λ (e : Client). CommitBy (history s) e a) ((eq_is d c.client).0 q) x) (T? (touches c k)))
          (λ _. own d a x k i (written-before d a k i x w))
      go (inr (e, _, q)) = rw (← q, at_same c.client c.view_after g.views) (ryw.0 k i (rw (← e) w))
