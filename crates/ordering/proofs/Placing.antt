-- What placing the lowest-numbered ready commit each time comes to, for any links between n commits: every commit once and no link
-- backwards; or some commit is left, and each that is left awaits another that is. Assumes nothing.
use Prim.Native.Nat.{ℕ, zero, suc, ◌≤◌, ◌<◌}
use mathlib.Core.Path.{◌≡◌, refl, sym, ap, subst}
use mathlib.Core.Bool.{not}
use mathlib.Core.Logic.{◌⊎◌, inl, inr, ◌↔◌, ◌≢◌}
use mathlib.Core.Option.{Option, some, none}
use mathlib.Core.List.{List, [], ◌∷◌}
use native.Mathlib.Omega.{arith}
use lib.Dec.{T, ltb, leb, not_T}
use lib.ListN.{length, get_or, take}
use Rattle.search.specs.Search.{any, least}
use Rattle.search.proofs.Tests.{same, and_is, not_is, lt-is, le_is, stable}
use Rattle.search.proofs.Search.{any-is, Least, found, least-is, least-none}
use Rattle.sets.specs.Set.{Set, has, insert}
use Rattle.sets.proofs.Laws.{has-none, insert-has, has-insert, insert-self}
use Rattle.relations.specs.Relation.{Relation}
use Rattle.ordering.specs.Links.{is_commit, Between, IsCommit}
use Rattle.ordering.specs.Order.{EachOnce}
use Rattle.ordering.specs.Placing.{unplaced, awaited, ready, lowest_ready, and_then, place_next, placed_with, lowest_ready_first}
use Rattle.ordering.specs.Claim.{LowestReadyFirst}
use Rattle.ordering.proofs.Lists.{At, OnlyCommits, NoneTwice, none-twice-few}

pub is_commit-is : (n c : ℕ) → T (is_commit n c) ↔ IsCommit n c
is_commit-is n c = and_is (ltb 0 c) (leb c n) (lt-is 0 c) (le_is c n)

pub left_is : (n : ℕ) (placed : Set) (c : ℕ) → T (unplaced n placed c) ↔ (IsCommit n c × (¬ T (has placed c)))
left_is n placed c = and_is (is_commit n c) (not (has placed c)) (is_commit-is n c) (not_is (has placed c) same)

-- a ready commit is not placed
pub ready-unplaced : (n : ℕ) (r : Relation) (placed : Set) (c : ℕ) → T (ready n r placed c) → T (unplaced n placed c)
unfolding ready
ready-unplaced n r placed c t = ((and_is (unplaced n placed c) (not (any (suc n) (awaited r placed c))) same same).0 t).0

-- every link to an entry comes from an earlier entry
abbrev pub NoneBackwards : Relation → List ℕ → Type 0
NoneBackwards r xs = (j : ℕ) → j < length xs → (a : ℕ) → T (r a (get_or xs j 0)) → (i : ℕ) × (i < j) × (get_or xs i 0 ≡ a)

-- what the set of a list holds
pub placed-is : (cs : List ℕ) (placed : Set) (a : ℕ) → T (has (placed_with cs placed) a) → T (has placed a) ⊎ At a cs
unfolding placed_with
placed-is [] placed a t = inl t
placed-is (c ∷ cs) placed a t = go (placed-is cs (insert c placed) a t)
  where
    first : T (has placed a) ⊎ (a ≡ c) → T (has placed a) ⊎ At a (c ∷ cs)
    first (inl x) = inl x
    first (inr e) = inr (0, omega arith, sym e)

    go : T (has (insert c placed) a) ⊎ At a cs → T (has placed a) ⊎ At a (c ∷ cs)
    go (inl x) = first (insert-has c placed a x)
    go (inr (i, l, e)) = inr (suc i, omega arith, e)

pub is-placed : (cs : List ℕ) (placed : Set) (a : ℕ) → T (has placed a) ⊎ At a cs → T (has (placed_with cs placed) a)
unfolding placed_with
is-placed [] placed a (inl x) = x
is-placed [] placed a (inr (i, l, e)) = absurd (omega arith)
is-placed (c ∷ cs) placed a (inl x) = is-placed cs (insert c placed) a (inl (has-insert c placed a x))
is-placed (c ∷ cs) placed a (inr (zero, l, e)) = is-placed cs (insert c placed) a (inl (subst (λ (x : ℕ). T (has (insert c placed) x)) e (insert-self c placed)))
is-placed (c ∷ cs) placed a (inr (suc i, l, e)) = is-placed cs (insert c placed) a (inr (i, omega arith, e))

module _ (n : ℕ) (r : Relation) (between : Between n r) where
  -- "ready: all commits with a link to it are placed"
  record Ready (placed : Set) (c : ℕ) : Type 0 where
    commit : IsCommit n c
    unplaced : ¬ T (has placed c)
    awaits : (a : ℕ) → T (r a c) → T (has placed a)

  awaited-is : (placed : Set) (c a : ℕ) → T (awaited r placed c a) ↔ (T (r a c) × (¬ T (has placed a)))
  awaited-is placed c a = and_is (r a c) (not (has placed a)) same (not_is (has placed a) same)

  some-awaited : (placed : Set) (c : ℕ) → T (any (suc n) (awaited r placed c)) ↔ ((a : ℕ) × (a < suc n) × (T (r a c) × (¬ T (has placed a))))
  some-awaited placed c = any-is (suc n) (awaited r placed c) (awaited-is placed c)

  ready-is : (placed : Set) (c : ℕ) → T (ready n r placed c) → Ready placed c
  unfolding ready
  ready-is placed c t =
      let h = (and_is (unplaced n placed c) (not (any (suc n) (awaited r placed c))) (left_is n placed c) (not_is (any (suc n) (awaited r placed c)) (some-awaited placed c))).0 t in
      record {
        commit = h.0.0;
        unplaced = h.0.1;
        awaits = λ a l. stable (has placed a) (λ u. h.1 (a, (let q = (between a c l).0.1 in omega (arith, q)), (l, u)));
      }

  -- a commit that is left and not ready awaits another
  pub not-ready : (placed : Set) (c : ℕ) → T (unplaced n placed c) → ¬ T (ready n r placed c) → T (any (suc n) (awaited r placed c))
  unfolding ready
  not-ready placed c t no-t =
      stable (any (suc n) (awaited r placed c)) (λ u. no-t ((and_is (unplaced n placed c) (not (any (suc n) (awaited r placed c))) same same).1 (t, not_T (any (suc n) (awaited r placed c)) u)))

  -- each commit of the list was ready when those before it were placed
  data Placing : Set → List ℕ → Type 0 where
    done : {placed : Set} → Placing placed []
    placing : {placed : Set} {c : ℕ} {cs : List ℕ} → Ready placed c → Placing (insert c placed) cs → Placing placed (c ∷ cs)

  -- as many as were asked for are placed, or no commit is ready
  place-up-to : (m : ℕ) (placed : Set)
      → Placing placed (place_next m n r placed)
      × ((length (place_next m n r placed) ≡ m) ⊎ (lowest_ready n r (placed_with (place_next m n r placed) placed) ≡ none))
  unfolding place_next and_then lowest_ready placed_with
  place-up-to zero placed = (done, inl refl)
  place-up-to (suc m) placed = go (least (suc n) (ready n r placed)) refl (least-is (suc n) (ready n r placed)) (λ c. place-up-to m (insert c placed))
    where
      rest : ℕ → List ℕ
      rest c = place_next m n r (insert c placed)

      go : (o : Option ℕ) → least (suc n) (ready n r placed) ≡ o → Least (suc n) (ready n r placed) o
          → ((c : ℕ) → Placing (insert c placed) (rest c) × ((length (rest c) ≡ m) ⊎ (lowest_ready n r (placed_with (rest c) (insert c placed)) ≡ none)))
          → Placing placed (and_then o rest)
          × ((length (and_then o rest) ≡ suc m) ⊎ (lowest_ready n r (placed_with (and_then o rest) placed) ≡ none))
      go none e l ih = (done, inr e)
      go (some c) e (found l t h) ih = (placing (ready-is placed c t) (ih c).0, more (ih c).1)
        where
          more : (length (rest c) ≡ m) ⊎ (lowest_ready n r (placed_with (rest c) (insert c placed)) ≡ none)
              → (suc (length (rest c)) ≡ suc m) ⊎ (lowest_ready n r (placed_with (rest c) (insert c placed)) ≡ none)
          more (inl q) = inl (ap suc q)
          more (inr q) = inr q

  -- each is the lowest-numbered ready commit where those before it are placed
  place-lowest : (m : ℕ) (placed : Set) (j : ℕ) → j < length (place_next m n r placed)
      → lowest_ready n r (placed_with (take j (place_next m n r placed)) placed) ≡ some (get_or (place_next m n r placed) j 0)
  unfolding place_next and_then placed_with
  place-lowest zero placed j l = absurd (omega arith)
  place-lowest (suc m) placed j l = go (lowest_ready n r placed) refl j (λ c. place-lowest m (insert c placed)) l
    where
      rest : ℕ → List ℕ
      rest c = place_next m n r (insert c placed)

      go : (o : Option ℕ) → lowest_ready n r placed ≡ o → (j : ℕ)
          → ((c j : ℕ) → j < length (rest c) → lowest_ready n r (placed_with (take j (rest c)) (insert c placed)) ≡ some (get_or (rest c) j 0))
          → j < length (and_then o rest) → lowest_ready n r (placed_with (take j (and_then o rest)) placed) ≡ some (get_or (and_then o rest) j 0)
      go none e j ih l = absurd (omega arith)
      go (some c) e zero ih l = e
      go (some c) e (suc j) ih l = ih c j (omega arith)

  -- ---- what is placed

  -- what holds of the entry at place j
  record Entry (placed : Set) (cs : List ℕ) (j : ℕ) : Type 0 where
    commit : IsCommit n (get_or cs j 0)
    unplaced : ¬ T (has placed (get_or cs j 0))
    earlier : (a : ℕ) → T (r a (get_or cs j 0)) → T (has placed a) ⊎ ((i : ℕ) × (i < j) × (get_or cs i 0 ≡ a))

  entry : {placed : Set} {cs : List ℕ} → Placing placed cs → (j : ℕ) → j < length cs → Entry placed cs j
  entry done j l = absurd (omega arith)
  entry (placing h p) zero l = record { commit = h.commit; unplaced = h.unplaced; earlier = λ a x. inl (h.awaits a x) }
  entry {placed} (placing {c = c} {cs = cs} h p) (suc j) l =
      let e = entry p j (omega arith) in
      record { commit = e.commit; unplaced = λ t. e.unplaced (has-insert c placed _ t); earlier = λ a x. go a (e.earlier a x) }
    where
      first : (a : ℕ) → T (has placed a) ⊎ (a ≡ c) → T (has placed a) ⊎ ((i : ℕ) × (i < suc j) × (get_or (c ∷ cs) i 0 ≡ a))
      first a (inl x) = inl x
      first a (inr q) = inr (0, omega arith, sym q)

      go : (a : ℕ) → T (has (insert c placed) a) ⊎ ((i : ℕ) × (i < j) × (get_or cs i 0 ≡ a)) → T (has placed a) ⊎ ((i : ℕ) × (i < suc j) × (get_or (c ∷ cs) i 0 ≡ a))
      go a (inl x) = first a (insert-has c placed a x)
      go a (inr (i, m, q)) = inr (suc i, omega arith, q)

  none-twice : {placed : Set} {cs : List ℕ} → Placing placed cs → NoneTwice cs
  none-twice done i j li lj e = absurd (omega arith)
  none-twice (placing h p) zero zero li lj e = refl
  none-twice {placed} (placing {c = c} {cs = cs} h p) zero (suc j) li lj e =
      absurd ((entry p j (omega arith)).unplaced (subst (λ (x : ℕ). T (has (insert c placed) x)) e (insert-self c placed)))
  none-twice {placed} (placing {c = c} {cs = cs} h p) (suc i) zero li lj e =
      absurd ((entry p i (omega arith)).unplaced (subst (λ (x : ℕ). T (has (insert c placed) x)) (sym e) (insert-self c placed)))
  none-twice (placing h p) (suc i) (suc j) li lj e = ap suc (none-twice p i j (omega arith) (omega arith) e)

  -- ---- from nothing placed

  abbrev pub placed_first : List ℕ
  placed_first = lowest_ready_first n r

  abbrev pub placed_set : Set
  placed_set = placed_with placed_first 0

  run : Placing 0 placed_first × ((length placed_first ≡ n) ⊎ (lowest_ready n r placed_set ≡ none))
  run = place-up-to n 0

  only-commits : OnlyCommits n placed_first
  only-commits j l = (entry run.0 j l).commit

  pub none-backwards : NoneBackwards r placed_first
  none-backwards j l a x = go ((entry run.0 j l).earlier a x)
    where
      go : T (has 0 a) ⊎ ((i : ℕ) × (i < j) × (get_or placed_first i 0 ≡ a)) → (i : ℕ) × (i < j) × (get_or placed_first i 0 ≡ a)
      go (inl t) = absurd (has-none a t)
      go (inr q) = q

  pub placed_at : (a : ℕ) → T (has placed_set a) → At a placed_first
  placed_at a t = go (placed-is placed_first 0 a t)
    where
      go : T (has 0 a) ⊎ At a placed_first → At a placed_first
      go (inl x) = absurd (has-none a x)
      go (inr q) = q

  pub lowest-first : LowestReadyFirst n r placed_first
  lowest-first = place-lowest n 0

  -- where no commit is left each stands once
  pub all_placed : ((c : ℕ) → c < suc n → ¬ T (unplaced n placed_set c)) → EachOnce n placed_first
  all_placed none_left = record {
    only-commits = only-commits;
    none-twice = none-twice run.0;
    none-missing = λ c p l. placed_at c (stable (has placed_set c) (λ u. none_left c (omega arith) ((left_is n placed_set c).1 ((p, l), u))));
  }

  -- in the end no commit is ready: n commits and one more would be too many
  pub none-ready : (c : ℕ) → ¬ T (ready n r placed_set c)
  unfolding lowest_ready
  none-ready c t = go run.1
    where
      h : Ready placed_set c
      h = ready-is placed_set c t

      only : OnlyCommits n (c ∷ placed_first)
      only zero l = h.commit
      only (suc i) l = only-commits i (omega arith)

      not_there : (i : ℕ) → i < length placed_first → get_or placed_first i 0 ≢ c
      not_there i l e = h.unplaced (is-placed placed_first 0 c (inr (i, l, e)))

      twice : NoneTwice (c ∷ placed_first)
      twice zero zero li lj e = refl
      twice zero (suc j) li lj e = absurd (not_there j (omega arith) (sym e))
      twice (suc i) zero li lj e = absurd (not_there i (omega arith) e)
      twice (suc i) (suc j) li lj e = ap suc (none-twice run.0 i j (omega arith) (omega arith) e)

      go : (length placed_first ≡ n) ⊎ (lowest_ready n r placed_set ≡ none) → ⊥
      go (inl e) = let few : suc (length placed_first) ≤ n = none-twice-few n (c ∷ placed_first) only twice in omega (arith, e)
      go (inr e) = (least-none (suc n) (ready n r placed_set)).0 e c (let q : c ≤ n = h.commit.1 in omega arith) t
