-- Commits renamed by an order: the names of an order in which each commit stands once, and versions with renamed writer and readers. Assumes nothing.
use Prim.Native.Nat.{ℕ, zero, suc, ◌≤◌, ◌<◌}
use mathlib.Core.Path.{◌≡◌, refl, sym, ap, subst}
use mathlib.Core.Logic.{◌⊎◌, inl, inr}
use mathlib.Core.List.{List, [], ◌∷◌, map}
use native.Mathlib.Omega.{arith}
use native.Mathlib.Decide.{ℕ_discrete}
use lib.Dec.{T, not_T}
use lib.ListN.{length, get_or}
use Rattle.search.specs.Choose.{choose}
use Rattle.search.proofs.Choose.{choose_yes, choose_no, choose-ind}
use Rattle.search.proofs.Tests.{T?}
use Rattle.sets.specs.Set.{Set, has, insert}
use Rattle.sets.proofs.Laws.{has-none, insert-has, has-insert, insert-self}
use Rattle.store.specs.Store.{CommitNumber}
use Rattle.ordering.specs.Links.{IsCommit}
use Rattle.ordering.specs.Order.{name_in, renamed_set, EachOnce}

-- ν names each of `commits` commits once, by the numbers 1 to n
pub record Names (commits n : ℕ) (ν : ℕ → ℕ) : Type 0 where
  pub opening : ν 0 ≡ 0
  pub commit : (j : ℕ) → 0 < j → j ≤ n → IsCommit commits (ν j)
  pub once : (i j : ℕ) → i ≤ n → j ≤ n → ν i ≡ ν j → i ≡ j
  pub named : (c : ℕ) → IsCommit commits c → (j : ℕ) × (0 < j) × (j ≤ n) × (ν j ≡ c)

pub order-names : (commits : ℕ) (order : List CommitNumber) → EachOnce commits order → Names commits (length order) (name_in order)
order-names commits order h = record { opening = refl; commit = commit; once = once; named = named }
  where
    commit : (j : ℕ) → 0 < j → j ≤ length order → IsCommit commits (name_in order j)
    commit zero p l = absurd (omega arith)
    commit (suc j) p l = h.only-commits j (omega arith)

    once : (i j : ℕ) → i ≤ length order → j ≤ length order → name_in order i ≡ name_in order j → i ≡ j
    once zero zero li lj e = refl
    once zero (suc j) li lj e = let p = (h.only-commits j (omega arith)).0 in absurd (omega (arith, p, e))
    once (suc i) zero li lj e = let p = (h.only-commits i (omega arith)).0 in absurd (omega (arith, p, e))
    once (suc i) (suc j) li lj e = ap suc (h.none-twice i j (omega arith) (omega arith) e)

    named : (c : ℕ) → IsCommit commits c → (j : ℕ) × (0 < j) × (j ≤ length order) × (name_in order j ≡ c)
    named c (p, l) = let x = h.none-missing c p l in let q : x.0 < length order = x.1 in (suc x.0, omega arith, omega arith, x.2)

-- ---- renamed sets

pub renamed-has : (ν : ℕ → ℕ) (n m c : ℕ) → T (has (renamed_set ν n m) c) → (j : ℕ) × (j < n) × T (has m j) × (ν j ≡ c)
unfolding renamed_set
renamed-has ν zero m c t = absurd (has-none c t)
renamed-has ν (suc n) m c t = go (T? (has m n)) (renamed-has ν n m c)
  where
    Found : ℕ → Type 0
    Found b = (j : ℕ) × (j < b) × T (has m j) × (ν j ≡ c)

    later : Found n → Found (suc n)
    later (j, l, x, e) = (j, omega arith, x, e)

    new : T (has m n) → T (has (renamed_set ν n m) c) ⊎ (c ≡ ν n) → (T (has (renamed_set ν n m) c) → Found n) → Found (suc n)
    new x (inl y) ih = later (ih y)
    new x (inr e) ih = (n, omega arith, x, sym e)

    go : Dec (T (has m n)) → (T (has (renamed_set ν n m) c) → Found n) → Found (suc n)
    go (yes x) ih = new x (insert-has (ν n) (renamed_set ν n m) c (subst (λ (w : Set). T (has w c)) (choose_yes (has m n) _ _ x) t)) ih
    go (no x) ih = later (ih (subst (λ (w : Set). T (has w c)) (choose_no (has m n) _ _ (not_T (has m n) x)) t))

pub has-renamed : (ν : ℕ → ℕ) (n m j : ℕ) → j < n → T (has m j) → T (has (renamed_set ν n m) (ν j))
unfolding renamed_set
has-renamed ν zero m j l t = absurd (omega arith)
has-renamed ν (suc n) m j l t = go (ℕ_discrete j n) (has-renamed ν n m j)
  where
    go : Dec (j ≡ n) → (j < n → T (has m j) → T (has (renamed_set ν n m) (ν j))) → T (has (choose (has m n) (insert (ν n) (renamed_set ν n m)) (renamed_set ν n m)) (ν j))
    go (yes e) ih =
        let t' : T (has m n) = subst (λ (x : ℕ). T (has m x)) e t in
        subst (λ (w : Set). T (has w (ν j))) (sym (choose_yes (has m n) (insert (ν n) (renamed_set ν n m)) (renamed_set ν n m) t'))
        (subst (λ (x : ℕ). T (has (insert (ν n) (renamed_set ν n m)) (ν x))) (sym e) (insert-self (ν n) (renamed_set ν n m)))
    go (no x) ih =
        let old = ih (omega arith) t in
        choose-ind (λ (w : Set). T (has w (ν j))) (has m n) (insert (ν n) (renamed_set ν n m)) (renamed_set ν n m)
        (λ y. has-insert (ν n) (renamed_set ν n m) (ν j) old) (λ y. old)

-- an entry of a mapped list
pub get_d_map : {A B : Type 0} (f : A → B) (xs : List A) (i : ℕ) (d : A) (e : B) → i < length xs → get_or (map f xs) i e ≡ f (get_or xs i d)
get_d_map f [] i d e l = absurd (omega arith)
get_d_map f (x ∷ xs) zero d e l = refl
get_d_map f (x ∷ xs) (suc i) d e l = get_d_map f xs i d e (omega arith)
