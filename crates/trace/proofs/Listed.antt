-- Laws of masks that are listed for some keys: which keys have an operation and how many there are, and where the mask of a key stands.
-- Assumes nothing.
use Prim.Native.Nat.{ℕ, zero, suc, ◌+◌, ◌-◌, ◌*◌, ◌^◌, ◌≤◌, ◌<◌}
use mathlib.Core.Path.{◌≡◌, refl, sym, ap, ◌∙◌}
use mathlib.Core.Bool.{Bool, true, false, ◌&&◌, ◌||◌}
use mathlib.Core.Logic.{◌⊎◌, inl, inr, ◌≢◌}
use mathlib.Core.Option.{Option, some}
use mathlib.Core.List.{List, [], ◌∷◌, ◌++◌, append-nil}
use native.Mathlib.Omega.{arith}
use native.Mathlib.Decide.{ℕ_discrete}
use native.Mathlib.Numerals.{add-one}
use lib.Dec.{T, eqb, eqb→eq}
use lib.ListN.{length, length-append}
use Rattle.search.specs.Choose.{choose, is_some}
use Rattle.search.specs.Search.{how_many}
use Rattle.search.proofs.Choose.{choose_yes, choose-ind}
use Rattle.search.proofs.Tests.{T_true, T_false, eq_test, or_left, or_right, or_cases, and_right}
use Rattle.search.proofs.Counting.{how_many-besides, how_many-again, how_many-none}
use Rattle.endian.specs.Endian.{le_at, le_bytes, pieces}
use Rattle.endian.proofs.Laws.{length-le_bytes, pieces-split}
use Rattle.endian.proofs.Stands.{Stands, stands_at, stands-as, stands-first, stands-second, read-fitting}
use Rattle.store.specs.Store.{Key, View, Value, Access, Operation}
use Rattle.store.specs.Update.{same_access, value_of}
use Rattle.trace.specs.Listed.{listed_bytes, touched, keys_after, keys_in}
use Rattle.trace.specs.WellFormed.{rank, Rise}
use Rattle.trace.proofs.WellFormed.{access_number-le-one}

-- ---- the keys with an operation

-- they are keys of the store, and no lower than the operations
pub touched-key : (keys low : ℕ) (os : List Operation) (k : Key) → Rise keys low os → T (touched os k) → (k < keys) × (low ≤ 2 * k + 1)
unfolding touched
touched-key keys low [] k rise t = absurd t
touched-key keys low (o ∷ os) k rise t = go (or_cases (eqb o.key k) (touched os k) t) (touched-key keys (suc (rank o)) os k rise.1)
  where
    go : T (eqb o.key k) ⊎ T (touched os k) → (T (touched os k) → (k < keys) × (suc (rank o) ≤ 2 * k + 1)) → (k < keys) × (low ≤ 2 * k + 1)
    go (inl e) ih =
        let same = eqb→eq o.key k e in
        let kind = access_number-le-one o.access in
        let first = rise.0 in
        (omega arith, omega arith)
    go (inr x) ih = let r = ih x in let first = rise.0 in (r.0, omega (arith, r.1))

-- without one there is no value read or written
pub untouched : (a : Access) (os : List Operation) (k : Key) → ¬ T (touched os k) → ¬ T (is_some (value_of a os k))
unfolding touched value_of is_some
untouched a [] k n = λ t. t
untouched a (o ∷ os) k n =
    choose-ind (λ (x : Option Value). ¬ T (is_some x)) (same_access a o.access && eqb o.key k) (some o.value) (value_of a os k)
    (λ here t. n (or_left (eqb o.key k) (touched os k) (and_right (same_access a o.access) (eqb o.key k) here)))
    (λ elsewhere. untouched a os k (λ x. n (or_right (eqb o.key k) (touched os k) x)))

-- the operations after one of key j that rise from it
keys_after-how_many : (keys j low : ℕ) (os : List Operation) → j < keys → 2 * j < low → Rise keys low os
    → suc (keys_after j os) ≡ how_many keys (λ k. eqb j k || touched os k)
unfolding touched keys_after choose
keys_after-how_many keys j low [] below from rise = sym (how_many-besides keys j (λ k. false) below (λ x. x) ∙ ap suc (how_many-none keys))
keys_after-how_many keys j low (o ∷ os) below from rise =
    go (ℕ_discrete o.key j) (keys_after-how_many keys o.key (suc (rank o)) os rise.0.of-the-store (omega arith) rise.1)
  where
    absent : o.key ≢ j → ¬ T (eqb o.key j || touched os j)
    absent m t = which (or_cases (eqb o.key j) (touched os j) t)
      where
        which : ¬ (T (eqb o.key j) ⊎ T (touched os j))
        which (inl e) = m (eqb→eq o.key j e)
        which (inr x) =
            let later = (touched-key keys (suc (rank o)) os j rise.1 x).1 in
            let first = rise.0.no_lower in
            let kind = access_number-le-one o.access in
            absurd (omega arith)

    go : Dec (o.key ≡ j) → suc (keys_after o.key os) ≡ how_many keys (λ k. eqb o.key k || touched os k)
        → suc (choose (eqb o.key j) 0 1 + keys_after o.key os) ≡ how_many keys (λ k. eqb j k || (eqb o.key k || touched os k))
    go (yes e) ih =
        let here = T_true (eqb o.key j) (eq_test o.key j e) in
        let again = how_many-again keys j (λ k. eqb o.key k || touched os k) (or_left (eqb o.key j) (touched os j) (eq_test o.key j e)) in
        rw here (omega arith)
    go (no m) ih =
        let elsewhere = T_false (eqb o.key j) (λ t. m (eqb→eq o.key j t)) in
        let more = how_many-besides keys j (λ k. eqb o.key k || touched os k) below (absent m) in
        rw elsewhere (omega arith)

-- as many keys have an operation as there are operations "whose key differs from the one before"
pub keys_in-how_many : (keys : ℕ) (os : List Operation) → Rise keys 0 os → keys_in os ≡ how_many keys (touched os)
unfolding keys_in touched
keys_in-how_many keys [] rise = sym (how_many-none keys)
keys_in-how_many keys (o ∷ os) rise = keys_after-how_many keys o.key (suc (rank o)) os rise.0.of-the-store (omega arith) rise.1

-- ---- as bytes

piece-length : (b : Bool) (m : ℕ) → length (choose b (le_bytes 8 m) []) ≡ 8 * choose b 1 0
unfolding choose
piece-length true m = length-le_bytes 8 m
piece-length false m = refl

pub length-listed_bytes : (n : ℕ) (f : Key → Bool) (u : View) → length (listed_bytes n f u) ≡ 8 * how_many n f
unfolding listed_bytes pieces how_many
length-listed_bytes zero f u = refl
length-listed_bytes (suc n) f u =
    let rest = length-listed_bytes n f u in
    let first = piece-length (f n) (u n) in
    length-append (listed_bytes n f u) (choose (f n) (le_bytes 8 (u n)) []) ∙ omega arith

-- the mask of a key that is listed stands behind those of lower keys
pub listed_back : (s : List ℕ) (at n : ℕ) (f : Key → Bool) (u : View) (k : Key) → k < n → T (f k) → u k < 2 ^ 64 → Stands s at (listed_bytes n f u)
    → le_at s (at + 8 * how_many k f) 8 ≡ u k
unfolding listed_bytes
listed_back s at n f u k below pass fits h =
    let (rest, split) = pieces-split n k (λ j. choose (f j) (le_bytes 8 (u j)) []) below in
    let behind = stands-second (pieces k (λ j. choose (f j) (le_bytes 8 (u j)) [])) _ (stands-as split h) in
    let there = stands_at (ap (λ (m : ℕ). at + m) (length-listed_bytes k f u)) (stands-first _ rest behind) in
    read-fitting 8 (u k) fits (stands-as (choose_yes (f k) (le_bytes 8 (u k)) [] pass) there)

-- a key that is listed adds its mask, and keys that are not add nothing
pub listed_more : (k : Key) (f : Key → Bool) (u : View) → T (f k) → listed_bytes (k + 1) f u ≡ listed_bytes k f u ++ le_bytes 8 (u k)
unfolding listed_bytes pieces
listed_more k f u pass = rw (add-one k) (ap (λ (x : List ℕ). pieces k (λ j. choose (f j) (le_bytes 8 (u j)) []) ++ x) (choose_yes (f k) (le_bytes 8 (u k)) [] pass))

listed-beyond : (d n : ℕ) (f : Key → Bool) (u : View) → ((k : Key) → n ≤ k → k < d + n → ¬ T (f k)) → listed_bytes (d + n) f u ≡ listed_bytes n f u
unfolding listed_bytes pieces choose
listed-beyond zero n f u none-there = let e : 0 + n ≡ n = omega arith in ap (λ (m : ℕ). listed_bytes m f u) e
listed-beyond (suc d) n f u none-there =
    let e : suc d + n ≡ suc (d + n) = omega arith in
    ap (λ (m : ℕ). listed_bytes m f u) e
    ∙ ap (λ (b : Bool). listed_bytes (d + n) f u ++ choose b (le_bytes 8 (u (d + n))) []) (T_false (f (d + n)) (none-there (d + n) (omega arith) (omega arith)))
    ∙ append-nil (listed_bytes (d + n) f u)
    ∙ listed-beyond d n f u (λ k from to. none-there k from (omega arith))

pub listed-passed : (n m : ℕ) (f : Key → Bool) (u : View) → n ≤ m → ((k : Key) → n ≤ k → k < m → ¬ T (f k)) → listed_bytes m f u ≡ listed_bytes n f u
listed-passed n m f u l none_between =
    let e : m ≡ m - n + n = omega arith in
    ap (λ (k : ℕ). listed_bytes k f u) e ∙ listed-beyond (m - n) n f u (λ k from to. none_between k from (omega arith))
