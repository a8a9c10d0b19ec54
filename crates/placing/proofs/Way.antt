-- The way back, written from the end of a list on down: the part of it as far as a commit, and one turn of the walk. Assumes nothing.
use Prim.Native.Nat.{ℕ, suc, ◌+◌, ◌-◌, ◌≤◌, ◌<◌}
use mathlib.Core.Path.{◌≡◌, refl, sym, ap, ◌∙◌}
use mathlib.Core.Bool.{Bool, true, false, ◌||◌}
use mathlib.Core.List.{List, [], ◌∷◌}
use native.Mathlib.Omega.{arith}
use native.Mathlib.Decide.{ℕ_discrete}
use lib.Dec.{T, eqb, not_T}
use lib.ListN.{length, get_or, set, take, drop, length-drop, length-set, drop_of_length-le}
use lib.Seq.{take_all, drop-cons, get_or-set_same, drop-set-lt}
use Rattle.std.specs.List.{position_or_len}
use Rattle.std.proofs.lemmas.Option.{cond_some}
use Rattle.std.proofs.lemmas.Grind.{common_steps}
use Rattle.std.specs.Prelude.{Some, None, nat_eq, position}
use Rattle.search.specs.Choose.{choose}
use Rattle.search.proofs.Choose.{choose_yes, choose_no}
use Rattle.search.proofs.Steps.{tests}
use Rattle.search.proofs.Tests.{true-T, false-T}
use Rattle.sets.specs.Set.{Set, has, single, insert}
use Rattle.sets.proofs.Algebra.{has-single, has-insert-is}
use Rattle.store.specs.Limits.{max_commits, numbers}
use Rattle.ordering.specs.Placing.{unplaced}
use Rattle.ordering.specs.Ring.{member, step_back, as_far_as, walk_back, ring_from}
use Rattle.ordering.specs.Rows.{links_in}

-- ---- as far as c

-- how many places stand in front of the first that has c
abbrev in_front : ℕ → List ℕ → ℕ
in_front c xs = position_or_len (λ x. nat_eq x c) xs

-- the part by its length: those, and that place, or all where there is none
as-far-take : (c : ℕ) (xs : List ℕ) → take (suc (in_front c xs)) xs ≡ as_far_as c xs
unfolding as_far_as choose
as-far-take c [] = refl
as-far-take c (x ∷ xs) = elim (ℕ_discrete x c) [
  | yes e ↦ let (a, b) : (eqb x c ≡ true) × (eqb c x ≡ true) = (omega tests, omega tests) in rw (a, b)
  | no n ↦
      let (a, b) : (eqb x c ≡ false) × (eqb c x ≡ false) = (omega tests, omega tests) in
      let one-more : 1 + in_front c xs ≡ suc (in_front c xs) = omega arith in
      rw (a, b) (ap (λ (k : ℕ). x ∷ take k xs) one-more ∙ ap (λ (ys : List ℕ). x ∷ ys) (as-far-take c xs))
]

module _ (way : List ℕ) (from c : ℕ) where
  pub far-found : (i : ℕ) → position (λ x. nat_eq x c) (drop from way) ≡ Some i → take (from + i + 1 - from) (drop from way) ≡ as_far_as c (drop from way)
  far-found i e =
      let at = (cond_some _ _ _ e).1 in
      let n : from + i + 1 - from ≡ suc (in_front c (drop from way)) = omega arith in
      ap (λ (k : ℕ). take k (drop from way)) n ∙ as-far-take c (drop from way)

  pub far_none : position (λ x. nat_eq x c) (drop from way) ≡ None → take (length way - from) (drop from way) ≡ as_far_as c (drop from way)
  far_none e =
      let all : length (drop from way) ≤ in_front c (drop from way) = grind (arith, common_steps) in
      take_all (length way - from) (drop from way) (omega (arith, length-drop from way))
      ∙ sym (take_all (suc (in_front c (drop from way))) (drop from way) (omega arith))
      ∙ as-far-take c (drop from way)

-- ---- the walk

-- the commits that were passed stand from `at` on, the last one, c, first, and `passed` is the set of them; the others of n steps may follow
pub record Walked (rows : List Set) (n : ℕ) (placed : Set) (start : ℕ) (way : List ℕ) (at : ℕ) (passed : Set) (c : ℕ) : Type 0 where
  pub steps : max_commits ≤ at + n
  pub last : get_or way at 0 ≡ c
  pub waiting : T (unplaced n placed c)
  pub set-of : (a : ℕ) → has passed a ≡ member a (drop at way)
  pub whole : ring_from n (links_in rows) placed start ≡ walk_back (at + n - max_commits) (step_back n (links_in rows) placed) c (drop (suc at) way)

-- one step: to a commit that was not passed
walk-on : (m : ℕ) (f : ℕ → ℕ) (x : ℕ) (xs : List ℕ) → ¬ T (member (f x) (x ∷ xs)) → walk_back (suc m) f x xs ≡ walk_back m f (f x) (x ∷ xs)
unfolding walk_back
walk-on m f x xs n = choose_no (member (f x) (x ∷ xs)) _ _ (not_T (member (f x) (x ∷ xs)) n)

-- or to one that was: the ring is the way from the last one as far as it
walk_end : (m : ℕ) (f : ℕ → ℕ) (x : ℕ) (xs : List ℕ) → T (member (f x) (x ∷ xs)) → walk_back (suc m) f x xs ≡ as_far_as (f x) (x ∷ xs)
unfolding walk_back
walk_end m f x xs t = choose_yes (member (f x) (x ∷ xs)) _ _ t

or-none : (b : Bool) → (b || false) ≡ b
or-none true = refl
or-none false = refl

module _ (rows : List Set) (n : ℕ) (placed : Set) (start : ℕ) (few : n ≤ max_commits) where
  abbrev f : ℕ → ℕ
  f = step_back n (links_in rows) placed

  pub walk_start : (way : List ℕ) → length way ≡ numbers → T (unplaced n placed start) → {passed : Set} → passed ≡ single start
      → Walked rows n placed start (set way max_commits start) max_commits passed start
  unfolding member
  walk_start way long waits {passed} e = record {
    steps = omega arith;
    last = here;
    waiting = waits;
    set-of = λ a. ap (λ (m : Set). has m a) e ∙ has-single start a ∙ sym (ap (member a) one_entry ∙ or-none (eqb a start));
    whole = ap (walk_back n f start) (sym past) ∙ ap (λ (m : ℕ). walk_back m f start (drop (suc max_commits) (set way max_commits start))) (let e : n ≡ max_commits + n - max_commits = omega arith in e);
  }
    where
      here : get_or (set way max_commits start) max_commits 0 ≡ start
      here = get_or-set_same way max_commits start 0 (omega arith)

      past : drop (suc max_commits) (set way max_commits start) ≡ []
      past = drop_of_length-le (set way max_commits start) {i = suc max_commits} (omega (arith, length-set way max_commits start))

      one_entry : drop max_commits (set way max_commits start) ≡ start ∷ []
      one_entry =
          drop-cons (set way max_commits start) max_commits 0 (omega (arith, length-set way max_commits start))
          ∙ ap (λ (x : ℕ). x ∷ drop (suc max_commits) (set way max_commits start)) here
          ∙ ap (λ (xs : List ℕ). start ∷ xs) past

  module _ {way : List ℕ} {at : ℕ} {passed : Set} {c : ℕ} (long : length way ≡ numbers) (high : at ≤ max_commits) (h : Walked rows n placed start way at passed c) where
    from_last : drop at way ≡ c ∷ drop (suc at) way
    from_last = drop-cons way at 0 (omega arith) ∙ ap (λ (x : ℕ). x ∷ drop (suc at) way) h.last

    -- no step is left
    pub walk-all : {from : ℕ} → from ≡ at → at ≤ max_commits - n → take (numbers - from) (drop from way) ≡ ring_from n (links_in rows) placed start
    unfolding walk_back
    walk-all {from} e none_left =
        take_all (numbers - from) (drop from way) (omega (arith, length-drop from way))
        ∙ ap (λ (k : ℕ). drop k way) e
        ∙ from_last
        ∙ sym (h.whole ∙ ap (λ (m : ℕ). walk_back m f c (drop (suc at) way)) (let z : at + n - max_commits ≡ 0 = omega arith in z))

    module _ (some-steps : max_commits - n < at) {back : ℕ} (is-back : back ≡ f c) where
      abbrev left : ℕ
      left = at - 1 + n - max_commits

      one-step : ring_from n (links_in rows) placed start ≡ walk_back (suc left) f c (drop (suc at) way)
      one-step = h.whole ∙ ap (λ (m : ℕ). walk_back m f c (drop (suc at) way)) (let e : at + n - max_commits ≡ suc left = omega arith in e)

      passed_is : has passed back ≡ member (f c) (c ∷ drop (suc at) way)
      passed_is = h.set-of back ∙ ap (member back) from_last ∙ ap (λ (x : ℕ). member x (c ∷ drop (suc at) way)) is-back

      -- the step leads to a commit that was passed
      pub walk-found : has passed back ≡ true → (from to : ℕ) → from ≡ at → take (to - from) (drop from way) ≡ as_far_as back (drop from way)
          → take (to - from) (drop from way) ≡ ring_from n (links_in rows) placed start
      walk-found old from to e far =
          far ∙ ap (as_far_as back) (ap (λ (k : ℕ). drop k way) e ∙ from_last) ∙ ap (λ (x : ℕ). as_far_as x (c ∷ drop (suc at) way)) is-back
          ∙ sym (one-step ∙ walk_end left f c (drop (suc at) way) (true-T _ (sym passed_is ∙ old)))

      -- or to one that was not
      pub walk-next : T (unplaced n placed back) → has passed back ≡ false → {more : Set} → more ≡ insert back passed
          → Walked rows n placed start (set way (at - 1) back) (at - 1) more back
      unfolding member
      walk-next waits new {more} add = record {
        steps = omega arith;
        last = here;
        waiting = waits;
        set-of = λ a. ap (λ (m : Set). has m a) add ∙ has-insert-is back passed a ∙ ap (λ (b : Bool). eqb a back || b) (h.set-of a) ∙ sym (ap (member a) from_back);
        whole =
            one-step
            ∙ walk-on left f c (drop (suc at) way) (false-T _ (sym passed_is ∙ new))
            ∙ ap (λ (x : ℕ). walk_back left f x (c ∷ drop (suc at) way)) (sym is-back)
            ∙ ap (walk_back left f back) (sym (rest-after ∙ from_last));
      }
        where
          next_place : suc (at - 1) ≡ at
          next_place = omega arith

          here : get_or (set way (at - 1) back) (at - 1) 0 ≡ back
          here = get_or-set_same way (at - 1) back 0 (omega arith)

          rest-after : drop (suc (at - 1)) (set way (at - 1) back) ≡ drop at way
          rest-after = ap (λ (k : ℕ). drop k (set way (at - 1) back)) next_place ∙ drop-set-lt at way (at - 1) back (omega arith)

          from_back : drop (at - 1) (set way (at - 1) back) ≡ back ∷ drop at way
          from_back =
              drop-cons (set way (at - 1) back) (at - 1) 0 (omega (arith, length-set way (at - 1) back))
              ∙ ap (λ (x : ℕ). x ∷ drop (suc (at - 1)) (set way (at - 1) back)) here
              ∙ ap (λ (xs : List ℕ). back ∷ xs) rest-after
