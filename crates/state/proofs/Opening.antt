-- The arrays at the start keep the opening configuration. Assumes nothing.
use Prim.Native.Nat.{ℕ, zero, suc, ◌+◌, ◌*◌, ◌^◌, ◌≤◌, ◌<◌}
use mathlib.Core.Path.{◌≡◌, refl, sym, ap, ◌∙◌, subst}
use mathlib.Core.Logic.{inl, inr}
use mathlib.Core.List.{List, [], ◌∷◌}
use native.Mathlib.Omega.{arith}
use native.Mathlib.Decide.{dec_lt}
use lib.Dec.{T, ltb, lt→ltb, lit<}
use lib.ListN.{length, get_or, replicate, length-replicate, get_or-replicate, get_or-eq_default}
use Rattle.search.proofs.Choose.{choose_yes}
use Rattle.sets.specs.Set.{has, below}
use Rattle.sets.proofs.Laws.{has-none, has-lt}
use Rattle.relations.specs.Relation.{alone, followed}
use Rattle.dependencies.specs.History.{PlainLink, by-SO, by-WR, by-WW}
use Rattle.dependencies.proofs.Opening.{Opening, stored-is-0, no_plain}
use Rattle.store.specs.Limits.{max_keys, max_clients}
use Rattle.store.specs.Store.{Version, opening_version, Store, opening_store, opening, count, version, next_number}
use Rattle.store.specs.History.{Wrote, history}
use Rattle.store.proofs.Sound.{opening-first, sound-opening}
use Rattle.store.proofs.Opening.{opening-history}
use Rattle.growth.specs.Sessions.{ReadUpTo}
use Rattle.state.specs.Places.{head_place, readers_place, owned_place, full_place, writers_place, view_place, commits_place, drawn_place, bar_place, before_place, read_place, link_place, lead_place, entered_place, client_rows, versions_length, keys_length, views_length, seen_length, sessions_length, commits_length, links_length}
use Rattle.state.specs.Keeps.{IsSet, RowIs, KeepsVersions, KeepsKeys, KeepsViews, KeepsSessions, KeepsCommits, KeepsLinks, NotedSince, FollowsLinks, Keeps, CommitOf, FirstLink, Step}

-- an array of n words x
abbrev pub filled : ℕ → ℕ → List ℕ
filled n x = replicate n x

filled-length : (n x : ℕ) → length (filled n x) ≡ n
filled-length n x = length-replicate n x

ones : (n j : ℕ) → j < n → get_or (filled n 1) j 0 ≡ 1
ones n j l = get_or-replicate n j 1 0 l

-- zeros are read as zero at any place
pub zeros : (n j : ℕ) → get_or (filled n 0) j 0 ≡ 0
zeros n j = go (dec_lt j n)
  where
    go : Dec (j < n) → get_or (filled n 0) j 0 ≡ 0
    go (yes l) = get_or-replicate n j 0 0 l
    go (no m) = get_or-eq_default (filled n 0) 0 (let e : length (filled n 0) ≡ n = filled-length n 0 in omega arith)

-- the set of number 0 alone
zero-alone : {P : ℕ → Type 0} (m : ℕ) → m ≡ 1 → P 0 → ((t : ℕ) → P t → t ≡ 0) → IsSet m P
zero-alone {P} m e p only t = (
  λ h. let l : t < 1 = has-lt 1 1 t (lit< tt) (subst (λ (x : ℕ). T (has x t)) e h) in subst P (sym (let z : t ≡ 0 = omega arith in z)) p,
  λ q. subst (λ (x : ℕ). T (has x t)) (sym e) (subst (λ (x : ℕ). T (has 1 x)) (sym (only t q)) tt),
)

-- the empty set, where nothing has the property
nothing-in : {P : ℕ → Type 0} (m : ℕ) → m ≡ 0 → ((t : ℕ) → ¬ P t) → IsSet m P
nothing-in m e none t = (λ h. absurd (has-none t (subst (λ (x : ℕ). T (has x t)) e h)), λ p. absurd (none t p))

module _ (keys : ℕ) where
  abbrev s : Store
  s = (opening keys).store

  abbrev o : Opening (history s)
  o = opening-history keys

  -- each key has version 0 alone
  one-version : (k : ℕ) → k < keys → count s k ≡ 1
  unfolding opening opening_store
  one-version k l = ap length (choose_yes (ltb k keys) (opening_version ∷ []) [] (lt→ltb k keys l))

  first-version : (k i : ℕ) → i < count s k → version s k i ≡ opening_version
  unfolding opening opening_store
  first-version k i l = (opening-first (ltb k keys) i l).1

  wrote-first : (k : ℕ) → k < keys → Wrote s 0 k 0
  wrote-first k l =
      let n : 0 < count s k = let e = one-version k l in omega arith in
      (n, ap (λ (v : Version). v.writer) (first-version k 0 n))

  keeps-versions : KeepsVersions s (filled versions_length 0)
  keeps-versions = record {
    room = filled-length versions_length 0;
    heads = λ k i l. zeros versions_length (head_place k i) ∙ ap (λ (v : Version). v.value + 2 ^ 32 * v.writer) (sym (first-version k i l));
    readers = λ k i l. zeros versions_length (readers_place k i) ∙ ap (λ (v : Version). v.readers) (sym (first-version k i l));
    value-fits = λ k i l. subst (λ (v : Version). v.value < 2 ^ 32) (sym (first-version k i l)) (lit< tt);
    owned = λ t p b k l. nothing-in _ (zeros versions_length (owned_place t k)) (λ i w. let z : t ≡ 0 = (o.only-first t k i w).0 in omega arith);
  }

  keeps_keys : keys ≤ max_keys → KeepsKeys s (filled keys_length 1)
  unfolding opening opening_store
  keeps_keys few = record {
    room = filled-length keys_length 1;
    full = λ k l. ones keys_length (full_place k) (omega arith) ∙ ap below (sym (one-version k l));
    writers = λ k l. zero-alone _ (ones keys_length (writers_place k) (omega arith)) (0, wrote-first k l) (λ t (i, w). (o.only-first t k i w).0);
  }

  -- the rows of the clients, in an array that has these or more
  pub opening-rows : keys ≤ max_keys → (long : ℕ) → client_rows ≤ long → (d : ℕ) → d < max_clients → RowIs keys (filled long 1) d ((opening keys).views d)
  unfolding opening opening_store
  opening-rows few long enough d b k l = ones long (view_place d k) (omega arith) ∙ sym (choose_yes (ltb k keys) 1 0 (lt→ltb k keys l))

  keeps-views : 1 ≤ keys → keys ≤ max_keys → KeepsViews (opening keys) (filled views_length 1) (filled seen_length 1)
  unfolding opening opening_store
  keeps-views some few = record {
    room = filled-length views_length 1;
    rows = opening-rows few views_length (omega arith);
    stored = λ t p l. absurd (omega arith);
    seen-room = filled-length seen_length 1;
    holds = λ d b. zero-alone _ (ones seen_length d b)
        (0, 0, ((sound-opening keys).views d).opened 0 some, wrote-first 0 some)
        (λ t (k, i, x, w). (o.only-first t k i w).0);
  }

  no-commit : (d t : ℕ) → ¬ CommitOf s d t
  no-commit d t (a, p, e) = let z : t ≡ 0 = stored-is-0 (history s) o a in omega arith

  -- there is no commit yet, with operations or without
  nobody : (t : ℕ) → 0 < t → ¬ (t < next_number s)
  unfolding opening opening_store
  nobody t p q = omega arith

  no-link : {a b : ℕ} → ¬ PlainLink (history s) a b
  no-link = no_plain (history s) o

  keeps-sessions : KeepsSessions s (filled sessions_length 0)
  keeps-sessions = record {
    room = filled-length sessions_length 0;
    commits-of = λ d b. nothing-in _ (zeros sessions_length (commits_place d)) (no-commit d);
    drawn = λ d b. nothing-in _ (zeros sessions_length (drawn_place d)) (λ w (t, c, r). no-commit d t c);
    bar = λ d b x. (λ l. let z = zeros sessions_length (bar_place d) in absurd (omega arith), λ (t, (p, q, _), l). absurd (nobody t p q));
  }

  keeps-commits : KeepsCommits s (filled commits_length 0)
  unfolding opening opening_store
  keeps-commits = record {
    room = filled-length commits_length 0;
    log = λ t p l. absurd (omega arith);
    before = λ t b. nothing-in _ (zeros commits_length (before_place t)) (λ a l. no-link (by-SO l));
    read = λ t b. nothing-in _ (zeros commits_length (read_place t)) (λ w x. no_read w t x);
  }
    where
      no_read : (w t : ℕ) → ReadUpTo (history s) w t → ⊥
      no_read w t (r, _, x) = no-link (by-WR x)

  no-first : (kind a b : ℕ) → ¬ FirstLink kind s a b
  no-first zero a b (inl x) = no-link (by-SO x)
  no-first zero a b (inr x) = no-link (by-WR x)
  no-first (suc n) a b x = no-link x

  no_step : (kind a b : ℕ) → ¬ Step kind s a b
  no_step zero a b (inl (alone x)) = no-link (by-SO x)
  no_step zero a b (inl (followed x r)) = no-link (by-SO x)
  no_step zero a b (inr (inl (alone x))) = no-link (by-WR x)
  no_step zero a b (inr (inl (followed x r))) = no-link (by-WR x)
  no_step zero a b (inr (inr x)) = no-link (by-WW x)
  no_step (suc n) a b (alone x) = no-link x
  no_step (suc n) a b (followed x r) = no-link x

  keeps-links : KeepsLinks s (filled links_length 0)
  keeps-links = record {
    room = filled-length links_length 0;
    steps = λ kind b t l. nothing-in _ (zeros links_length (link_place kind t)) (λ a. no_step kind a t);
    leads = λ kind b k l. nothing-in _ (zeros links_length (lead_place kind k)) (λ a (r, x, y). no-first kind a r y);
  }

  follows-links : keys ≤ max_keys → FollowsLinks s (filled links_length 0)
  unfolding NotedSince opening opening_store
  follows-links few = record { earlier = s; number_is = sym (zeros links_length entered_place); few = few; kept = keeps-links; since = 0; noted = refl }

  -- "At the start each list is version 0 ..; each client's view is {0} at each key"
  pub keeps-opening : 1 ≤ keys → keys ≤ max_keys
      → Keeps (opening keys) (filled versions_length 0) (filled keys_length 1) (filled views_length 1) (filled seen_length 1) (filled sessions_length 0) (filled commits_length 0) (filled links_length 0)
  keeps-opening some few = record {
    in-versions = keeps-versions;
    in-keys = keeps_keys few;
    in-views = keeps-views some few;
    in-sessions = keeps-sessions;
    in-commits = keeps-commits;
    in-links = follows-links few;
  }
