-- What the words in the arrays say: sets that have a number in common, and the writer in a head. Assumes nothing.
use Rattle.std.proofs.Common.{◌≡◌, ℕ, ◌^◌, ◌<◌, not, T, eqb, ◌≢◌, ◌↔◌, List, get_or, ap, ◌∙◌, arith, eq-eqb, ne_eqb}
use lib.Bits.{bit_and, and_le_l}
use Rattle.search.proofs.Tests.{not_is, eq_is}
use Rattle.sets.specs.Set.{Set, has, lowest}
use Rattle.sets.proofs.Laws.{has-lowest}
use Rattle.sets.proofs.Algebra.{both_is, empty-is}
use Rattle.store.specs.Store.{View, Store, count, version}
use Rattle.state.specs.Places.{head_place, readers_place, writer_in}
use Rattle.state.proofs.Lookup.{writer-in-head}
use Rattle.views.specs.Words.{meets}
use Rattle.views.specs.Rules.{StoreAndView, by_writer, by_reader}

-- ---- sets that have a number in common

-- `a & b != 0`
pub meets-yes : (a b : ℕ) → bit_and a b ≢ 0 → T (meets a b)
unfolding meets
meets-yes a b n = rw (ne_eqb (bit_and a b) 0 n) tt

pub meets-no : (a b : ℕ) → bit_and a b ≡ 0 → ¬ T (meets a b)
unfolding meets
meets-no a b e t = rw (eq-eqb (bit_and a b) 0 e) at t

-- some number is in both words
pub meets-is : (a b : ℕ) → a < 2 ^ 64 → T (meets a b) ↔ ((t : ℕ) × T (has a t) × T (has b t))
unfolding meets
meets-is a b l = (λ t. let n = (not_is (eqb (bit_and a b) 0) (eq_is _ 0)).0 t in common n, λ (t, x, y). meets-yes a b (λ e. (empty-is (bit_and a b)).0 e t ((both_is a b t).1 (x, y))))
  where
    common : bit_and a b ≢ 0 → (t : ℕ) × T (has a t) × T (has b t)
    common n =
        let c = bit_and a b in
        let x = (both_is a b (lowest c)).0 (has-lowest c (omega arith) (omega (arith, and_le_l a b))) in
        (lowest c, x.0, x.1)

-- ---- the versions in the arrays

module _ (s : Store) (u : View) (n : ℕ) (versions keys masks : List ℕ) (base : ℕ) (h : StoreAndView s u n versions keys masks base)
    (k i : ℕ) (l : i < count s k) where
  pub writer-in-array : writer_in (get_or versions (head_place k i) 0) ≡ (version s k i).writer
  writer-in-array = writer-in-head s h.sound (omega (arith, h.few)) k i l (h.in-versions.heads k i l) (h.in-versions.value-fits k i l)

  pub written-by : (set : Set) {w : ℕ} → w ≡ writer_in (get_or versions (head_place k i) 0) → has set w ≡ by_writer s set k i
  written-by set e = ap (has set) (e ∙ writer-in-array)

  pub read-by : (set : Set) → not (eqb (bit_and set (get_or versions (readers_place k i) 0)) 0) ≡ by_reader s set k i
  unfolding meets
  read-by set = rw (h.in-versions.readers k i l)
