-- What a commit of a bare image, as it is run, reads and writes. Assumes nothing.
use Prim.Native.Nat.{ℕ, zero, suc, ◌≤◌, ◌<◌}
use mathlib.Core.Path.{◌≡◌, refl, sym, ap, ◌∙◌, subst}
use mathlib.Core.Bool.{Bool, true, false, ◌&&◌}
use mathlib.Core.Logic.{◌≢◌}
use mathlib.Core.Option.{Option, some, none}
use mathlib.Core.List.{List, [], ◌∷◌, ◌++◌}
use native.Mathlib.Omega.{arith}
use native.Mathlib.Decide.{ℕ_discrete, dec_lt}
use lib.Dec.{T, eqb, eqb_refl, not_T}
use Rattle.search.specs.Choose.{choose, is_some, map_some, or_else}
use Rattle.search.specs.Search.{least}
use Rattle.search.proofs.Choose.{choose_yes, choose_no}
use Rattle.search.proofs.Tests.{eq_is}
use Rattle.search.proofs.Search.{Least, found, missed, least-is}
use Rattle.store.specs.Store.{Key, CommitNumber, Value, Store, count, version, Access, read, write, Operation}
use Rattle.store.specs.Update.{same_access, value_of}
use Rattle.ordering.specs.Order.{versions_by, value_by, operation_of, operations_below, commit_of}

-- ---- the operations of a commit

or-none : {A : Type 0} (o : Option A) → or_else o none ≡ o
unfolding or_else
or-none none = refl
or-none (some a) = refl

none_or : {A : Type 0} (o : Option A) → or_else none o ≡ o
unfolding or_else
none_or o = refl

value-append : (a : Access) (xs ys : List Operation) (k : Key) → value_of a (xs ++ ys) k ≡ or_else (value_of a xs k) (value_of a ys k)
unfolding value_of or_else choose
value-append a [] ys k = refl
value-append a (o ∷ xs) ys k = go (same_access a o.access && eqb o.key k) (value-append a xs ys k)
  where
    go : (b : Bool) → value_of a (xs ++ ys) k ≡ or_else (value_of a xs k) (value_of a ys k)
        → choose b (some o.value) (value_of a (xs ++ ys) k) ≡ or_else (choose b (some o.value) (value_of a xs k)) (value_of a ys k)
    go true e = refl
    go false e = e

-- an operation has a value at its key alone, and for its own kind
value-operation : (a b : Access) (j k : Key) (o : Option Value) → value_of a (operation_of b j o) k ≡ choose (same_access a b && eqb j k) o none
unfolding value_of operation_of choose
value-operation a b j k (some x) = refl
value-operation a b j k none = go (same_access a b && eqb j k)
  where
    go : (t : Bool) → none ≡ choose {A = Option Value} t none none
    go true = refl
    go false = refl

value-elsewhere : (a b : Access) (j k : Key) (o : Option Value) → j ≢ k → value_of a (operation_of b j o) k ≡ none
value-elsewhere a b j k o n = value-operation a b j k o ∙ choose_no (same_access a b && eqb j k) o none (not_T (same_access a b && eqb j k) (λ t. n ((eq_is j k).0 (right (same_access a b) t))))
  where
    right : (x : Bool) → T (x && eqb j k) → T (eqb j k)
    right true t = t
    right false t = absurd t

module _ (s : Store) (t : CommitNumber) where
  two : (a : Access) (k j : Key) → Option Value
  two a k j = or_else (value_of a (operation_of read j (value_by s t read j)) k) (value_of a (operation_of write j (value_by s t write j)) k)

  two_here : (a : Access) (k : Key) → two a k k ≡ value_by s t a k
  unfolding two
  two_here read k =
      let e = value-operation read read k k (value_by s t read k) ∙ choose_yes (eqb k k) (value_by s t read k) none (eqb_refl k) in
      let f = value-operation read write k k (value_by s t write k) ∙ choose_no false (value_by s t write k) none tt in
      rw (e, f) (or-none (value_by s t read k))
  two_here write k =
      let e = value-operation write read k k (value_by s t read k) ∙ choose_no false (value_by s t read k) none tt in
      let f = value-operation write write k k (value_by s t write k) ∙ choose_yes (eqb k k) (value_by s t write k) none (eqb_refl k) in
      rw (e, f) (none_or (value_by s t write k))

  two-elsewhere : (a : Access) (k j : Key) → j ≢ k → two a k j ≡ none
  unfolding two
  two-elsewhere a k j n =
      let e = value-elsewhere a read j k (value_by s t read j) n in
      let f = value-elsewhere a write j k (value_by s t write j) n in
      rw (e, f) (none_or none)

  value-more : (a : Access) (n k : ℕ) → value_of a (operations_below s t (suc n)) k ≡ or_else (value_of a (operations_below s t n) k) (two a k n)
  unfolding operations_below two
  value-more a n k =
      value-append a (operations_below s t n) _ k
      ∙ ap (or_else (value_of a (operations_below s t n) k)) (value-append a (operation_of read n (value_by s t read n)) (operation_of write n (value_by s t write n)) k)

  value-beyond : (a : Access) (n k : ℕ) → n ≤ k → value_of a (operations_below s t n) k ≡ none
  unfolding operations_below value_of
  value-beyond a zero k l = refl
  value-beyond a (suc n) k l =
      let e = value-beyond a n k (omega arith) in
      value-more a n k ∙ (rw (e, two-elsewhere a k n (λ q. omega arith)) (none_or none))

  value-below : (a : Access) (n k : ℕ) → k < n → value_of a (operations_below s t n) k ≡ value_by s t a k
  value-below a zero k l = absurd (omega arith)
  value-below a (suc n) k l = value-more a n k ∙ go (ℕ_discrete n k) (value-below a n k)
    where
      go : Dec (n ≡ k) → (k < n → value_of a (operations_below s t n) k ≡ value_by s t a k) → or_else (value_of a (operations_below s t n) k) (two a k n) ≡ value_by s t a k
      go (yes e) ih =
          let b = value-beyond a n k (omega arith) in
          let q : two a k n ≡ value_by s t a k = ap (two a k) e ∙ two_here a k in
          rw (b, q) (none_or (value_by s t a k))
      go (no x) ih =
          let b = ih (omega arith) in
          rw (b, two-elsewhere a k n x) (or-none (value_by s t a k))

-- ---- what a commit of the image does

-- it read, or wrote, the version
abbrev pub Did : Store → CommitNumber → Access → Key → ℕ → Type 0
Did s t a k i = (i < count s k) × T (versions_by s t a k i)

module _ (s : Store) (only : (k i : ℕ) → i < count s k → k < s.keys) (t : CommitNumber) where
  abbrev value : Access → Key → Option Value
  value a k = value_of a (commit_of s t).operations k

  -- the value that an operation has is that of a version
  pub does-out : (a : Access) (k : Key) → T (is_some (value a k)) → (k < s.keys) × ((i : ℕ) × Did s t a k i)
  unfolding commit_of value_by map_some is_some
  does-out a k x = go (dec_lt k s.keys)
    where
      at : (o : Option ℕ) → Least (count s k) (versions_by s t a k) o → T (is_some (map_some (λ i. (version s k i).value) o)) → (i : ℕ) × Did s t a k i
      at none l u = absurd u
      at (some i) (found l u h) v = (i, (l, u))

      go : Dec (k < s.keys) → (k < s.keys) × ((i : ℕ) × Did s t a k i)
      go (yes l) = (l, at (least (count s k) (versions_by s t a k)) (least-is (count s k) (versions_by s t a k)) (subst (λ (o : Option Value). T (is_some o)) (value-below s t a s.keys k l) x))
      go (no n) = absurd (subst (λ (o : Option Value). T (is_some o)) (value-beyond s t a s.keys k (omega arith)) x)

  -- and where the commit read, or wrote, one version of the key alone, the operation has its value
  pub does-in : (a : Access) (k i : ℕ) → Did s t a k i → ((j : ℕ) → Did s t a k j → i ≡ j) → value a k ≡ some (version s k i).value
  unfolding commit_of value_by map_some
  does-in a k i d once = value-below s t a s.keys k (only k i d.0) ∙ go (least (count s k) (versions_by s t a k)) (least-is (count s k) (versions_by s t a k))
    where
      go : (o : Option ℕ) → Least (count s k) (versions_by s t a k) o → map_some (λ i. (version s k i).value) o ≡ some (version s k i).value
      go none (missed m) = absurd (m i d.0 d.1)
      go (some j) (found l u h) = ap (λ (x : ℕ). some (version s k x).value) (sym (once j (l, u)))
