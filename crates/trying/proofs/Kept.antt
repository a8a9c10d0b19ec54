-- The arrays that keep a store tell its history, so what was tried on them is so of the store. Assumes nothing.
use Prim.Native.Nat.{ℕ, ◌+◌, ◌*◌, ◌≤◌, ◌<◌}
use mathlib.Core.Path.{◌≡◌, sym, ◌∙◌, subst}
use mathlib.Core.Logic.{◌↔◌}
use mathlib.Core.List.{List}
use native.Mathlib.Omega.{arith}
use lib.Dec.{T}
use lib.ListN.{get_or}
use Rattle.search.proofs.Tests.{both}
use Rattle.sets.specs.Set.{Set, has, below, width}
use Rattle.sets.proofs.Laws.{has-below}
use Rattle.sets.proofs.Counting.{full-count}
use Rattle.relations.specs.Relation.{Plus}
use Rattle.relations.specs.Within.{Within}
use Rattle.relations.proofs.Within.{LeadsTo, within-map}
use Rattle.dependencies.specs.History.{History, Stored, StoredBelow, as-writer, as-reader, SO, PrefixStep, SnapshotStep, Holds}
use Rattle.store.specs.Limits.{max_keys}
use Rattle.store.specs.Store.{View, Store, Commit, count, next_number}
use Rattle.store.specs.History.{Wrote, Read, history, held}
use Rattle.store.specs.Image.{ClientsFit}
use Rattle.store.proofs.Links.{stored-below, prefix-within, snapshot-within}
use Rattle.growth.specs.Made.{Writer}
use Rattle.growth.specs.Links.{FromWrite}
use Rattle.growth.specs.Sessions.{UpTo, ReadUpTo}
use Rattle.growth.specs.Views.{Lacking}
use Rattle.growth.specs.Clauses.{LeadsToHeld}
use Rattle.state.specs.Places.{full_place}
use Rattle.state.specs.Keeps.{IsSet, KeepsCommits, KeepsOperations, Step}
use Rattle.state.proofs.Sets.{is_set-as}
use Rattle.state.proofs.Ranks.{writes-rank}
use Rattle.views.specs.Rules.{StoreAndView}
use Rattle.views.proofs.Words.{writer-in-array}
use Rattle.trying.specs.Recorded.{versions_of, Exists, writer_at, readers_at, HeldIn, WroteOne, client_in, session_in, recorded}
use Rattle.trying.specs.Tries.{StepOf}
use Rattle.trying.proofs.Agreeing.{Agrees, SO-agrees, prefix-agrees, snapshot-agrees, up-to-agrees, read-up-to-agrees}

module _ (s : Store) (u : View) (n : ℕ) (versions keys masks : List ℕ) (base : ℕ) (h : StoreAndView s u n versions keys masks base) where
  -- a version of the store is at its place of the arrays
  pub exists-is : (k i : ℕ) → Exists keys n k i ↔ (i < count s k)
  exists-is k i = (λ (l, m). subst (λ (c : ℕ). i < c) (all l) m, λ m. (here m, subst (λ (c : ℕ). i < c) (sym (all (here m))) m))
    where
      here : i < count s k → k < n
      here m = let l : k < s.keys = h.sound.only-keys k i m in omega (arith, h.number)

      all : k < n → versions_of keys k ≡ count s k
      all l = full-count (get_or keys (full_place k) 0) (count s k) (h.in-keys.full k (omega (arith, h.number)))

  wrote-is : (t k i : ℕ) → (Exists keys n k i × (writer_at versions k i ≡ t)) ↔ Wrote s t k i
  wrote-is t k i = (
    λ (x, e). let l = (exists-is k i).0 x in (l, sym (writer-in-array s u n versions keys masks base h k i l) ∙ e),
    λ (l, e). ((exists-is k i).1 l, writer-in-array s u n versions keys masks base h k i l ∙ e),
  )

  read_is : (t k i : ℕ) → (Exists keys n k i × T (has (readers_at versions k i) t)) ↔ Read s t k i
  read_is t k i = (
    λ (x, r). let l = (exists-is k i).0 x in (l, subst (λ (m : Set). T (has m t)) (h.in-versions.readers k i l) r),
    λ (l, r). ((exists-is k i).1 l, subst (λ (m : Set). T (has m t)) (sym (h.in-versions.readers k i l)) r),
  )

  -- ---- sets of commits by their versions

  pub holds_kept : (seen : Set) → IsSet seen (HeldIn versions keys masks base n) → IsSet seen (Holds (history s) (held u))
  holds_kept seen = is_set-as seen (λ t. (λ (k, i, x, (y, e)). (k, i, subst (λ (m : Set). T (has m i)) (h.in-masks k x.0) y, (wrote-is t k i).0 (x, e)), back t))
    where
      back : (t : ℕ) → Holds (history s) (held u) t → HeldIn versions keys masks base n t
      back t (k, i, y, w) = let (x, e) = (wrote-is t k i).1 w in (k, i, x, (subst (λ (m : Set). T (has m i)) (sym (h.in-masks k x.0)) y, e))

  pub written-kept : (c : Commit) (ranks : Set) (values : List ℕ) → KeepsOperations c ranks values → (written : Set) → IsSet written (WroteOne versions keys ranks n) → IsSet written (FromWrite s c)
  written-kept c ranks values o written = is_set-as written (λ t. (
    λ (k, i, x, (y, e)). (k, subst T (sym (writes-rank o k)) y, (i, (wrote-is t k i).0 (x, e))),
    λ (k, y, (i, w)). let (x, e) = (wrote-is t k i).1 w in (k, i, x, (subst T (writes-rank o k) y, e)),
  ))

  pub lacking-kept : n ≤ max_keys → (seen lacking : Set) → IsSet seen (Holds (history s) (held u)) → IsSet lacking (λ t. WroteOne versions keys (below width) n t × (¬ T (has seen t)))
      → IsSet lacking (Lacking s u)
  lacking-kept few seen lacking is = is_set-as lacking (λ t. (
    λ (w, d). ((writer t).0 w, λ x. d ((is t).1 x)),
    λ (w, d). ((writer t).1 w, λ x. d ((is t).0 x)),
  ))
    where
      writer : (t : ℕ) → WroteOne versions keys (below width) n t ↔ Writer (history s) t
      writer t = (λ (k, i, x, (_, e)). (k, (i, (wrote-is t k i).0 (x, e))), λ (k, (i, w)). let (x, e) = (wrote-is t k i).1 w in (k, i, x, (every k x.0, e)))
        where
          every : (k : ℕ) → k < n → T (has (below width) (2 * k + 1))
          every k l = has-below 64 (2 * k + 1) (omega arith)

  -- ---- links

  module _ (commits : List ℕ) (log : KeepsCommits s commits) (fit : ClientsFit s) where
    abbrev H : History
    H = recorded versions keys commits n

    client-kept : (t : ℕ) → 0 < t → t ≤ s.commits → client_in commits t ≡ s.client_of t
    client-kept t p l = let e = log.log t p l in let f : s.client_of t < 256 = fit t p l in omega (arith, e, f)

    session-kept : (t : ℕ) → 0 < t → t ≤ s.commits → session_in commits t ≡ s.session_of t
    session-kept t p l = let e = log.log t p l in let f : s.client_of t < 256 = fit t p l in omega (arith, e, f)

    in-log : (t : ℕ) → Stored (history s) t → t ≤ s.commits
    in-log t x = let l : t < next_number s = stored-below s h.sound t x in omega arith

    told-stored : (t : ℕ) → Stored H t → Stored (history s) t
    told-stored t (as-writer {k} {i} w) = as-writer ((wrote-is t k i).0 w)
    told-stored t (as-reader {k} {i} r) = as-reader ((read_is t k i).0 r)

    pub told : Agrees H (history s)
    told = record {
      wrote = λ t k i. (wrote-is t k i).0;
      read = λ t k i. (read_is t k i).0;
      client = λ t x p. client-kept t p (in-log t (told-stored t x));
      session = λ t x p. session-kept t p (in-log t (told-stored t x));
    }

    pub tells : Agrees (history s) H
    tells = record {
      wrote = λ t k i. (wrote-is t k i).1;
      read = λ t k i. (read_is t k i).1;
      client = λ t x p. sym (client-kept t p (in-log t x));
      session = λ t x p. sym (session-kept t p (in-log t x));
    }

    pub told_below : (most : ℕ) → next_number s ≡ most → StoredBelow most H
    told_below most e a x = subst (λ (m : ℕ). a < m) e (stored-below s h.sound a (told-stored a x))

    pub up-to-kept : (t : ℕ) (r : Set) → IsSet r (UpTo H t) → IsSet r (UpTo (history s) t)
    up-to-kept t r = is_set-as r (λ a. (up-to-agrees told t a, up-to-agrees tells t a))

    -- ---- what leads to a commit that the view holds, where `seen` are these

    module _ (seen : Set) (is : IsSet seen (Holds (history s) (held u))) where
      leads-kept : (R Q : ℕ → ℕ → Type 0) → ((a b : ℕ) → R a b → Q a b) → ((a b : ℕ) → Q a b → R a b) → (r : Set) → IsSet r (λ a. (t : ℕ) × T (has seen t) × R a t) → IsSet r (LeadsToHeld s u Q)
      leads-kept R Q f g r = is_set-as r (λ a. (λ (t, x, l). (t, (is t).0 x, f a t l), λ (t, x, l). (t, (is t).1 x, g a t l)))

      pub before-kept : (r : Set) → IsSet r (λ a. (t : ℕ) × T (has seen t) × SO H a t) → IsSet r (LeadsToHeld s u (SO (history s)))
      before-kept = leads-kept (SO H) (SO (history s)) (SO-agrees told) (SO-agrees tells)

      pub read_kept : (r : Set) → IsSet r (λ a. (t : ℕ) × T (has seen t) × ReadUpTo H a t) → IsSet r (LeadsToHeld s u (ReadUpTo (history s)))
      read_kept = leads-kept (ReadUpTo H) (ReadUpTo (history s)) (read-up-to-agrees told) (read-up-to-agrees tells)

      -- within as many links as there are commit numbers is "+"
      abbrev Seen : ℕ → Type 0
      Seen t = T (has seen t)

      path-kept : (R Q : ℕ → ℕ → Type 0) → ((a b : ℕ) → R a b → Q a b) → ((a b : ℕ) → Q a b → R a b)
          → ((a : ℕ) → Within Q (Holds (history s) (held u)) (next_number s) a ↔ LeadsTo Q (Holds (history s) (held u)) a)
          → (links : ℕ) → next_number s ≡ links → (r : Set) → IsSet r (Within R Seen links) → IsSet r (LeadsToHeld s u (Plus Q))
      path-kept R Q f g enough links e r x =
          is_set-as r (λ a. both (again a) (both (enough a) (λ (t, p, y). (t, y, p), λ (t, y, p). (t, p, y)))) (subst (λ (m : ℕ). IsSet r (Within R Seen m)) (sym e) x)
        where
          again : (a : ℕ) → Within R Seen (next_number s) a ↔ Within Q (Holds (history s) (held u)) (next_number s) a
          again a = (
            within-map R Q Seen (Holds (history s) (held u)) f (λ t. (is t).0) (next_number s) a,
            within-map Q R (Holds (history s) (held u)) Seen g (λ t. (is t).1) (next_number s) a,
          )

      pub prefix-kept : (links : ℕ) → next_number s ≡ links → (r : Set) → IsSet r (Within (StepOf 0 H) Seen links) → IsSet r (LeadsToHeld s u (Plus (Step 0 s)))
      prefix-kept = path-kept (PrefixStep H) (PrefixStep (history s)) (prefix-agrees told) (prefix-agrees tells) (prefix-within s h.sound (has seen) is)

      pub snapshot-kept : (links : ℕ) → next_number s ≡ links → (r : Set) → IsSet r (Within (StepOf 1 H) Seen links) → IsSet r (LeadsToHeld s u (Plus (Step 1 s)))
      snapshot-kept = path-kept (SnapshotStep H) (SnapshotStep (history s)) (snapshot-agrees told) (snapshot-agrees tells) (snapshot-within s h.sound (has seen) is)
