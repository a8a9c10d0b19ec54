-- The operations of a file as numbers of eight bytes: what is copied is what would be written anew. Assumes nothing.
use Prim.Native.Nat.{ℕ, zero, suc, ◌+◌, ◌*◌, ◌≤◌}
use mathlib.Core.Path.{◌≡◌, refl, sym, ap, ap₂, ◌∙◌, fun_ext}
use mathlib.Core.Bool.{true}
use mathlib.Core.List.{List, ◌++◌}
use native.Mathlib.Omega.{arith}
use lib.Dec.{T}
use mir.Facts.{and_yes}
use Rattle.search.proofs.Tests.{T_true, true-T}
use Rattle.endian.specs.Endian.{le_at, le_bytes, pieces}
use Rattle.endian.proofs.Laws.{le_bytes-le_at-add, pieces-first}
use Rattle.store.specs.Limits.{max_keys}
use Rattle.trace.specs.Format.{operation_at, operations_at, rank_at, operation_fits, operations_fit}
use Rattle.trace.specs.Encode.{operation_bytes, operations_bytes}
use Rattle.trace.proofs.Tests.{operation_fits-is}
use Rattle.trace.proofs.Decoded.{access_number-access_of}

-- the eight bytes at a place of a file, read as one number and written again
abbrev pub word_at : List ℕ → ℕ → List ℕ
word_at s at = le_bytes 8 (le_at s at 8)

-- an operation that fits is its eight bytes: "0 read or 1 write, key u8, zero u16, value u32"
operation-word : (s : List ℕ) (at keys low : ℕ) → keys ≤ max_keys → T (operation_fits s at keys low) → word_at s at ≡ operation_bytes (operation_at s at)
unfolding operation_bytes
operation-word s at keys low few fits =
    let (access, key, zeros, rises) = (operation_fits-is s at keys low).0 fits in
    le_bytes-le_at-add s 1 7 at (at + 1) (omega arith) refl
    ∙ ap₂ ◌++◌ (ap (le_bytes 1) (sym (access_number-access_of (le_at s at 1) access)))
    (le_bytes-le_at-add s 1 6 (at + 1) (at + 2) (omega arith) (omega arith)
    ∙ ap (λ l. le_bytes 1 (le_at s (at + 1) 1) ++ l)
    (le_bytes-le_at-add s 2 4 (at + 2) (at + 4) (omega arith) (omega arith) ∙ ap (λ z. le_bytes 2 z ++ le_bytes 4 (le_at s (at + 4) 4)) zeros))

-- operations that fit, in turn
pub operations-words : (s : List ℕ) (from keys low m : ℕ) → keys ≤ max_keys → operations_fit s from keys low m ≡ true
    → pieces m (λ i. word_at s (from + 8 * i)) ≡ operations_bytes (operations_at s from m)
unfolding pieces operations_at operations_bytes operations_fit
operations-words s from keys low zero few fit = refl
operations-words s from keys low (suc m) few fit =
    let (first, others) = and_yes (operation_fits s from keys low) (operations_fit s (from + 8) keys (suc (rank_at s from)) m) (true-T _ fit) in
    let start : from + 8 * 0 ≡ from = omega arith in
    let next : (i : ℕ) → from + 8 * suc i ≡ from + 8 + 8 * i = λ i. omega arith in
    pieces-first m (λ i. word_at s (from + 8 * i))
    ∙ ap₂ ◌++◌ (ap (word_at s) start ∙ operation-word s from keys low few first)
    (ap (pieces m) (fun_ext (λ i. ap (word_at s) (next i))) ∙ operations-words s (from + 8) keys (suc (rank_at s from)) m few (T_true _ others))

-- they are at most two for each key: each has a higher rank than the one before
pub operations-few : (s : List ℕ) (from keys low m : ℕ) → low ≤ 2 * keys → operations_fit s from keys low m ≡ true → low + m ≤ 2 * keys
unfolding operations_fit
operations-few s from keys low zero l fit = omega arith
operations-few s from keys low (suc m) l fit =
    let (first, others) = and_yes (operation_fits s from keys low) (operations_fit s (from + 8) keys (suc (rank_at s from)) m) (true-T _ fit) in
    let (access, key, zeros, rises) = (operation_fits-is s from keys low).0 first in
    let rest = operations-few s (from + 8) keys (suc (rank_at s from)) m (omega arith) (T_true _ others) in
    omega arith
