-- A walk against the links of any relation R, from the members of a set to all that lead to one: what holds on the way, and that it ends with
-- everything that leads to a member. `done` are the numbers whose row was taken, `left` those whose row is taken in the next round. Assumes nothing.
use Prim.Native.Nat.{ℕ, ◌+◌, ◌^◌, ◌<◌}
use mathlib.Core.Path.{◌≡◌, sym, ap, ◌∙◌, subst}
use mathlib.Core.Bool.{Bool, ◌||◌}
use mathlib.Core.Logic.{◌⊎◌, inl, inr}
use mathlib.Core.List.{List}
use native.Mathlib.Omega.{arith}
use lib.Dec.{T}
use lib.ListN.{get_or}
use Rattle.search.proofs.Tests.{same, T?, T_false}
use Rattle.sets.specs.Set.{Set, has, union, without, lowest}
use Rattle.sets.proofs.Laws.{has-none, has-lt, has-lowest}
use Rattle.sets.proofs.Algebra.{has-union, without_is, same-sets, union-larger}
use Rattle.relations.specs.Relation.{Plus, one, more}
use Rattle.store.specs.Limits.{numbers}
use Rattle.state.specs.Keeps.{IsSet}
use Rattle.state.specs.Rows.{InRows}
use Rattle.state.proofs.Sets.{is_set-as, is_set-union, is_set-without}

-- ---- the closing argument

module _ {R : ℕ → ℕ → Type 0} {N : ℕ → Type 0} (closed : (a b : ℕ) → R a b → N b → N a) where
  -- what has N whenever it leads to something with N has it whenever it leads there by a walk,
  walk-closed : {a b : ℕ} → Plus R a b → N b → N a
  walk-closed (one r) n = closed _ _ r n
  walk-closed (more r p) n = closed _ _ r (walk-closed p n)

  -- and so the first link of a walk to something with N ends at something with N
  pub first-link : {a b : ℕ} → Plus R a b → N b → (t : ℕ) × N t × R a t
  first-link (one r) n = (_, n, r)
  first-link (more r p) n = (_, walk-closed p n, r)

-- ---- the walk

-- a is in the set, or leads to a member of it
abbrev Reaches : (ℕ → ℕ → Type 0) → Set → ℕ → Type 0
Reaches R set a = T (has set a) ⊎ ((t : ℕ) × T (has set t) × Plus R a t)

pub record Walked (R : ℕ → ℕ → Type 0) (set all done left : Set) : Type 0 where
  -- the rows of `done` have been gathered
  pub gathered : IsSet all (λ a. (t : ℕ) × T (has done t) × R a t)
  pub begun : (t : ℕ) → T (has set t) → T (has done t) ⊎ T (has left t)
  pub followed : (a t : ℕ) → R a t → T (has done t) → T (has done a) ⊎ T (has left a)
  pub reaches : (a : ℕ) → T (has done a) ⊎ T (has left a) → Reaches R set a

-- a step in front of a walk
lead-on : (R : ℕ → ℕ → Type 0) (set : Set) (a t : ℕ) → R a t → Reaches R set t → (x : ℕ) × T (has set x) × Plus R a x
lead-on R set a t r (inl m) = (t, m, one r)
lead-on R set a t r (inr (x, m, p)) = (x, m, more r p)

-- at the start
pub walk_begins : (R : ℕ → ℕ → Type 0) (set : Set) → Walked R set 0 0 set
walk_begins R set = record {
  gathered = λ a. (λ h. absurd (has-none a h), λ (t, d, _). absurd (has-none t d));
  begun = λ t m. inr m;
  followed = λ a t r d. absurd (has-none t d);
  reaches = λ a x. start a x;
}
  where
    start : (a : ℕ) → T (has 0 a) ⊎ T (has set a) → Reaches R set a
    start a (inl d) = absurd (has-none a d)
    start a (inr m) = inl m

-- a round more: the rows of all that is left
module _ {R : ℕ → ℕ → Type 0} {set all done left : Set} (w : Walked R set all done left) (rows : Set) (is : IsSet rows (λ a. (t : ℕ) × T (has left t) × R a t)) where
  abbrev done' : Set
  done' = union done left

  abbrev all' : Set
  all' = union all rows

  abbrev left' : Set
  left' = without all' done'

  done-is : IsSet done' (λ a. T (has done a) ⊎ T (has left a))
  done-is = is_set-union done left (λ a. same) (λ a. same)

  all-is : IsSet all' (λ a. (t : ℕ) × T (has done' t) × R a t)
  all-is = is_set-as all' (λ a. (gather a, λ (t, d, r). ungather a t r ((done-is t).0 d))) (is_set-union all rows w.gathered is)
    where
      gather : (a : ℕ) → ((t : ℕ) × T (has done t) × R a t) ⊎ ((t : ℕ) × T (has left t) × R a t) → (t : ℕ) × T (has done' t) × R a t
      gather a (inl (t, d, r)) = (t, (done-is t).1 (inl d), r)
      gather a (inr (t, l, r)) = (t, (done-is t).1 (inr l), r)

      ungather : (a t : ℕ) → R a t → T (has done t) ⊎ T (has left t) → ((t : ℕ) × T (has done t) × R a t) ⊎ ((t : ℕ) × T (has left t) × R a t)
      ungather a t r (inl d) = inl (t, d, r)
      ungather a t r (inr l) = inr (t, l, r)

  left_is : IsSet left' (λ a. ((t : ℕ) × T (has done' t) × R a t) × (¬ T (has done' a)))
  left_is = is_set-without all' done' all-is (λ a. same)

  pub walk-on : Walked R set all' done' left'
  walk-on = record {
    gathered = all-is;
    begun = λ a m. inl ((done-is a).1 (w.begun a m));
    followed = λ a t r d. follow a t r d (T? (has done' a));
    reaches = λ a x. reach a x;
  }
    where
      follow : (a t : ℕ) → R a t → T (has done' t) → Dec (T (has done' a)) → T (has done' a) ⊎ T (has left' a)
      follow a t r d (yes y) = inl y
      follow a t r d (no n) = inr ((left_is a).1 ((t, d, r), n))

      reach : (a : ℕ) → T (has done' a) ⊎ T (has left' a) → Reaches R set a
      reach a (inl d) = w.reaches a ((done-is a).0 d)
      reach a (inr l) = let (t, d, r) = ((left_is a).0 l).0 in inr (lead-on R set a t r (w.reaches t ((done-is t).0 d)))

-- at the end everything that leads to a member has been gathered, and nothing else
pub walk_ends : {R : ℕ → ℕ → Type 0} {set all done : Set} → Walked R set all done 0 → IsSet all (λ a. (t : ℕ) × T (has set t) × Plus R a t)
walk_ends {R} {set} {all} {done} w = is_set-as all (λ a. (out a, back a)) w.gathered
  where
    only-done : (a : ℕ) → T (has done a) ⊎ T (has 0 a) → T (has done a)
    only-done a (inl d) = d
    only-done a (inr z) = absurd (has-none a z)

    out : (a : ℕ) → (t : ℕ) × T (has done t) × R a t → (t : ℕ) × T (has set t) × Plus R a t
    out a (t, d, r) = lead-on R set a t r (w.reaches t (inl d))

    back : (a : ℕ) → (t : ℕ) × T (has set t) × Plus R a t → (t : ℕ) × T (has done t) × R a t
    back a (t, m, p) = first-link {R = R} {N = λ x. T (has done x)} (λ x y r d. only-done x (w.followed x y r d)) p (only-done t (w.begun t m))

-- ---- one round, by what its calls answer

-- nothing that is left was taken, so the numbers taken make a larger number
pub more-done : (done left : ℕ) → ((a : ℕ) → T (has done a) → ¬ T (has left a)) → (left ≡ 0 → ⊥) → left < 2 ^ 64 → {done'' : ℕ} → done'' ≡ union done left → done < done''
more-done done left apart n l e = let t = has-lowest left (omega arith) l in rw e (union-larger done left (lowest left) t (λ d. apart (lowest left) d t))

-- what is to be taken was not taken
pub still-apart : (all done : ℕ) {left : ℕ} → left ≡ without all done → (a : ℕ) → T (has done a) → ¬ T (has left a)
still-apart all done {left} e a d l = ((without_is all done a).0 (subst (λ (x : ℕ). T (has x a)) e l)).1 d

pub walk_turn : {R : ℕ → ℕ → Type 0} {set all done left : Set} → Walked R set all done left → left < 2 ^ 64
    → (links : List ℕ) (from : ℕ) → ((t : ℕ) → t < numbers → IsSet (get_or links (from + t) 0) (λ a. R a t)) → (rows : Set) → IsSet rows (InRows links from left)
    → {all'' done'' left'' : Set} → all'' ≡ union all rows → done'' ≡ union done left → left'' ≡ without all'' done'' → Walked R set all'' done'' left''
walk_turn {left = left} w l links from row rows is e f g =
    rw (g, e, f) (walk-on w rows (is_set-as rows (λ a. (λ (t, m, x). (t, m, (row t (has-lt 64 left t l m) a).0 x), λ (t, m, r). (t, m, (row t (has-lt 64 left t l m) a).1 r))) is))

-- the first round takes the set itself
none-union : (m : Set) → m ≡ union 0 m
none-union m = sym (same-sets (union 0 m) m (λ i. has-union 0 m i ∙ ap (λ (b : Bool). b || has m i) (T_false (has 0 i) (has-none i))))

pub walk_first : {R : ℕ → ℕ → Type 0} {set : Set} → set < 2 ^ 64
    → (links : List ℕ) (from : ℕ) → ((t : ℕ) → t < numbers → IsSet (get_or links (from + t) 0) (λ a. R a t)) → (first : Set) → IsSet first (InRows links from set)
    → {left : Set} → left ≡ without first set → Walked R set first set left
walk_first {R} {set} l links from row first is e = walk_turn (walk_begins R set) l links from row first is (none-union first) (none-union set) e
