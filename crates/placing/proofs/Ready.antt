-- Links kept in rows of words: which commit is ready, and which is one step back. Assumes nothing.
use Prim.Native.Nat.{ℕ, suc, ◌^◌, ◌≤◌, ◌<◌}
use mathlib.Core.Path.{◌≡◌, sym, ap, ◌∙◌, subst}
use mathlib.Core.Bool.{not}
use mathlib.Core.Logic.{inr, ⊎_elim, ◌↔◌, ◌≢◌}
use mathlib.Core.Option.{some, none}
use mathlib.Core.List.{List}
use native.Mathlib.Omega.{arith}
use native.Mathlib.Decide.{ℕ_discrete}
use lib.Dec.{T, T_not, not_T}
use lib.ListN.{get_or}
use Rattle.search.specs.Search.{any}
use Rattle.search.proofs.Tests.{same, both, and_is, not_is}
use Rattle.search.proofs.Search.{any-in, any_out, least-none, least-found}
use Rattle.sets.specs.Set.{Set, has, without, lowest, Gives}
use Rattle.sets.proofs.Laws.{has-lowest, lowest-least}
use Rattle.sets.proofs.Algebra.{without_is, empty-is, gives_is}
use Rattle.ordering.specs.Links.{is_commit, Between}
use Rattle.ordering.specs.Shape.{commit_set}
use Rattle.ordering.specs.Placing.{unplaced, awaited, ready, lowest_ready}
use Rattle.ordering.specs.Ring.{or_zero, step_back}
use Rattle.ordering.specs.Rows.{links_in}
use Rattle.ordering.proofs.Formed.{commit-set-is}
use Rattle.ordering.proofs.Placing.{is_commit-is, left_is, ready-unplaced}

-- the set of the commits that are not placed
pub unplaced-is : (n : ℕ) (placed : Set) (c : ℕ) → T (has (without (commit_set n) placed) c) ↔ T (unplaced n placed c)
unplaced-is n placed c =
    both (without_is (commit_set n) placed c)
    (let parts = and_is (is_commit n c) (not (has placed c)) (is_commit-is n c) (not_is (has placed c) same) in
    (λ (x, y). parts.1 ((commit-set-is n c).0 x, y), λ t. let p = parts.0 t in ((commit-set-is n c).1 p.0, p.1)))

-- what a search for a ready commit knows: the commits in `left` are not placed, and each that is ready is among them
pub record Left (rows : List Set) (n : ℕ) (placed left : Set) : Type 0 where
  pub not-placed : (c : ℕ) → T (has left c) → T (unplaced n placed c)
  pub has-ready : (c : ℕ) → T (ready n (links_in rows) placed c) → T (has left c)

module _ (rows : List Set) (n : ℕ) (placed : Set) (between : Between n (links_in rows)) where
  -- what a commit awaits is what its row holds and is not placed
  abbrev waits : ℕ → Set
  waits c = without (get_or rows c 0) placed

  waits-is : (c a : ℕ) → T (has (waits c) a) ↔ T (awaited (links_in rows) placed c a)
  waits-is c a =
      both (without_is (get_or rows c 0) placed a)
      (let parts = and_is (links_in rows a c) (not (has placed a)) same (not_is (has placed a) same) in (parts.1, parts.0))

  awaited-low : (c a : ℕ) → T (awaited (links_in rows) placed c a) → a < suc n
  awaited-low c a t = let l = (between a c ((and_is (links_in rows a c) (not (has placed a)) same same).0 t).0).0.1 in omega (arith, l)

  -- ---- ready

  ready-none : (c : ℕ) → T (ready n (links_in rows) placed c) → waits c ≡ 0
  unfolding ready
  ready-none c t =
      let no = T_not (any (suc n) (awaited (links_in rows) placed c)) ((and_is (unplaced n placed c) (not (any (suc n) (awaited (links_in rows) placed c))) same same).0 t).1 in
      (empty-is (waits c)).1 (λ a x. no (any-in (suc n) (awaited (links_in rows) placed c) a (awaited-low c a ((waits-is c a).0 x)) ((waits-is c a).0 x)))

  none-ready : (c : ℕ) → T (unplaced n placed c) → waits c ≡ 0 → T (ready n (links_in rows) placed c)
  unfolding ready
  none-ready c t e =
      (and_is (unplaced n placed c) (not (any (suc n) (awaited (links_in rows) placed c))) same same).1 (
        t,
        not_T (any (suc n) (awaited (links_in rows) placed c)) (λ x.
            let y = any_out (suc n) (awaited (links_in rows) placed c) x in (empty-is (waits c)).0 e y.0 ((waits-is c y.0).1 y.2)),
      )

  pub left-start : {left : Set} → left ≡ without (commit_set n) placed → Left rows n placed left
  left-start e = subst (Left rows n placed) (sym e) (record {
    not-placed = λ c. (unplaced-is n placed c).0;
    has-ready = λ c t. (unplaced-is n placed c).1 (ready-unplaced n (links_in rows) placed c t);
  })

  -- none is left
  pub left-none : {left : Set} → Left rows n placed left → left ≡ 0 → lowest_ready n (links_in rows) placed ≡ none
  unfolding lowest_ready
  left-none {left} h e = (least-none (suc n) (ready n (links_in rows) placed)).1 (λ j l t. (empty-is left).0 e j (h.has-ready j t))

  -- c is the lowest of them, and w is what it awaits
  module _ {left : Set} (h : Left rows n placed left) {c others w : ℕ} (given : Gives left c others) (is-awaited : w ≡ waits c) where
    low : c ≤ n
    low = ((is_commit-is n c).0 ((and_is (is_commit n c) (not (has placed c)) same same).0 (h.not-placed c given.held)).0).1

    -- nothing: it is ready
    pub left-found : w ≡ 0 → (lowest_ready n (links_in rows) placed ≡ some c) × (c ≤ n)
    unfolding lowest_ready
    left-found e = (
      least-found (suc n) (ready n (links_in rows) placed) c (omega (arith, low)) (none-ready c (h.not-placed c given.held) (sym is-awaited ∙ e))
          (λ j l t. let m = given.least j (h.has-ready j t) in omega (arith, m)),
      low,
    )

    -- something: it is not
    pub left-next : w ≢ 0 → Left rows n placed others
    left-next other = record {
      not-placed = λ a t. h.not-placed a ((gives_is given a).1 (inr t));
      has-ready = λ a t. ⊎_elim (λ e. absurd (other (is-awaited ∙ ready-none c (subst (λ (y : ℕ). T (ready n (links_in rows) placed y)) e t)))) (λ x. x)
          ((gives_is given a).0 (h.has-ready a t));
    }

  -- ---- one step back

  -- a commit that is left awaits another where none is ready
  pub awaits : lowest_ready n (links_in rows) placed ≡ none → (c : ℕ) → T (unplaced n placed c) → 0 < waits c
  unfolding lowest_ready
  awaits stuck c t =
      let l = ((left_is n placed c).0 t).0.1 in
      elim (ℕ_discrete (waits c) 0) [
        | yes e ↦ absurd ((least-none (suc n) (ready n (links_in rows) placed)).0 stuck c (omega (arith, l)) (none-ready c t e))
        | no other ↦ omega arith
      ]

  -- where c awaits w
  pub back-lowest : (c : ℕ) {w back : ℕ} → w ≡ waits c → 0 < w → w < 2 ^ 64 → back ≡ lowest w
      → (back ≡ step_back n (links_in rows) placed c) × T (unplaced n placed back)
  unfolding or_zero
  back-lowest c {w} {back} e p word is-lowest =
      let here = (waits-is c back).0 (subst (λ (m : Set). T (has m back)) e (subst (λ (x : ℕ). T (has w x)) (sym is-lowest) (has-lowest w p word))) in
      let parts = (and_is (links_in rows back c) (not (has placed back)) same (not_is (has placed back) same)).0 here in (
        sym (ap or_zero (least-found (suc n) (awaited (links_in rows) placed c) back (awaited-low c back here) here
            (λ j l t. let m = lowest-least w p word j (subst (λ (x : Set). T (has x j)) (sym e) ((waits-is c j).1 t)) in omega (arith, m)))),
        (left_is n placed back).1 ((between back c parts.0).0, parts.1),
      )
