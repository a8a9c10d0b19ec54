-- A list whose elements are set one after the other, from the first. Assumes nothing.
use Prim.Native.Nat.{ℕ, ◌+◌, ◌≤◌, ◌<◌}
use mathlib.Core.Path.{◌≡◌, refl, ◌∙◌}
use mathlib.Core.List.{List}
use native.Mathlib.Omega.{arith}
use borrow.Author.Count.{below_more}
use lib.ListN.{length, get_or, set, length-set}
use lib.Seq.{get_or-set_same, get_or-set_other}

-- the first i elements are those of f, and the others are as they were
pub record Filled (f : ℕ → ℕ) (before : List ℕ) (i : ℕ) (after : List ℕ) : Type 0 where
  pub filled : (k : ℕ) → k < i → get_or after k 0 ≡ f k
  pub kept : (k : ℕ) → i ≤ k → get_or after k 0 ≡ get_or before k 0
  pub same_length : length after ≡ length before

module _ (f : ℕ → ℕ) (before : List ℕ) where
  pub filled_none : Filled f before 0 before
  filled_none = record { filled = λ k l. absurd (omega arith); kept = λ k l. refl; same_length = refl }

  -- one more
  pub filled_more : {i : ℕ} {now after : List ℕ} → i < length before → Filled f before i now → after ≡ set now i (f i) → Filled f before (i + 1) after
  filled_more {i} {now} l h e =
      let long = h.same_length in
      rw e (record {
        filled = below_more _ i (λ k less. get_or-set_other now i k (f i) 0 (omega arith) ∙ h.filled k less) (get_or-set_same now i (f i) 0 (omega arith));
        kept = λ k more. get_or-set_other now i k (f i) 0 (omega arith) ∙ h.kept k (omega arith);
        same_length = length-set now i (f i) ∙ long;
      })
