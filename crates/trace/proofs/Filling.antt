-- What a record lists, put over a row of masks: one lemma for each way of listing. Assumes nothing.
use Prim.Native.Nat.{ℕ, zero, suc, ◌+◌, ◌*◌, ◌^◌, ◌≤◌, ◌<◌}
use mathlib.Core.Path.{◌≡◌, refl, sym, ap, ◌∙◌, subst, fun_ext}
use mathlib.Core.Bool.{Bool}
use mathlib.Core.Option.{Option}
use mathlib.Core.List.{List}
use native.Mathlib.Omega.{arith}
use lib.Dec.{T, ltb, lt→ltb}
use lib.ListN.{length}
use Rattle.search.specs.Choose.{choose}
use Rattle.search.specs.Search.{how_many}
use Rattle.search.proofs.Choose.{choose_yes}
use Rattle.search.proofs.Tests.{T_true, true-T}
use Rattle.sets.specs.Set.{Set, has, below, size}
use Rattle.sets.proofs.Laws.{has-below, below-small}
use Rattle.sets.proofs.Counting.{size-how_many}
use Rattle.endian.specs.Endian.{Bytes, le_at}
use Rattle.store.specs.Store.{Key}
use Rattle.trace.specs.Entry.{listed_or}
use Rattle.trace.specs.Listed.{listed_at, touched}
use Rattle.trace.specs.Format.{view_at, operations_at}
use Rattle.trace.specs.Meaning.{listing_of, ListingFits, OperationsFit}
use Rattle.trace.specs.Sorted.{touched_by, ListsBy}
use Rattle.trace.specs.WellFormed.{Rise}
use Rattle.trace.specs.declared.records.Listing.{Listing}
use Rattle.trace.specs.declared.records.Listing.TheVariants.{Every, Only, Touched}
use Rattle.trace.proofs.Decoded.{operations-read}
use Rattle.trace.proofs.Listed.{touched-key}
use Rattle.trace.proofs.Touched.{touched-count}
use Rattle.trace.proofs.Masks.{over-unlisted, over-listed}

-- each number below n is in the set of all of them, so as many as n are
below-count : (n k : ℕ) → k ≤ n → how_many k (has (below n)) ≡ k
unfolding how_many choose
below-count n zero l = refl
below-count n (suc k) l = let rest = below-count n k (omega arith) in rw (T_true (has (below n) k) (has-below n k (omega arith))) (omega arith)

-- the keys with an operation are those of the ranks
pub lists-by : (s : List ℕ) (ranks : Set) {l : Listing} {operations count masks : ℕ} → l ≡ Touched operations count masks → ListsBy s ranks l
    → (k : Key) → touched_by ranks k ≡ touched (operations_at s operations count) k
unfolding ListsBy
lists-by s ranks is by k = sym (subst (ListsBy s ranks) is by k)

module _ (s : List ℕ) (n : ℕ) where
  -- ---- every key

  pub every-fits : {l : Listing} {masks : ℕ} → l ≡ Every masks → ListingFits s n l → masks + 8 * n ≤ length s
  unfolding ListingFits
  every-fits is fits = subst (ListingFits s n) is fits

  pub every-put : {l : Listing} {masks : ℕ} (fresh before : ℕ → ℕ) → l ≡ Every masks → ((k : ℕ) → k < n → fresh k ≡ le_at s (masks + 8 * k) 8)
      → (k : ℕ) → k < n → fresh k ≡ listed_or (listing_of s n l k) (before k)
  unfolding listing_of listed_or view_at
  every-put {masks = masks} fresh before is same k below = rw is (same k below ∙ sym (choose_yes (ltb k n) (le_at s (masks + 8 * k) 8) 0 (lt→ltb k n below)))

  -- ---- the keys in a set

  pub only-fits : {l : Listing} {listed masks : ℕ} → l ≡ Only listed masks → ListingFits s n l → (masks + 8 * size listed ≤ length s) × (listed < 2 ^ n)
  unfolding ListingFits
  only-fits is fits = subst (ListingFits s n) is fits

  pub only-lists : {l : Listing} {listed masks : ℕ} → l ≡ Only listed masks → (k : ℕ) → listed_at s masks (has listed) k ≡ listing_of s n l k
  unfolding listing_of
  only-lists is k = rw is

  -- where all are in the set, each mask stands where it does if every key is listed
  pub all_fit : {l : Listing} {listed masks : ℕ} → l ≡ Only listed masks → listed ≡ below n → ListingFits s n l → masks + 8 * n ≤ length s
  all_fit {listed = listed} {masks = masks} is all fits =
      let many : size listed ≡ n = ap size all ∙ size-how_many n (below n) (below-small n) ∙ below-count n n (omega arith) in
      omega (arith, (only-fits is fits).0)

  pub all-put : {l : Listing} {listed masks : ℕ} (fresh before : ℕ → ℕ) → l ≡ Only listed masks → listed ≡ below n → ((k : ℕ) → k < n → fresh k ≡ le_at s (masks + 8 * k) 8)
      → (k : ℕ) → k < n → fresh k ≡ listed_or (listing_of s n l k) (before k)
  all-put {l} {listed} {masks} fresh before is all same k below-n =
      let count : how_many k (has listed) ≡ k = ap (λ (m : Set). how_many k (has m)) all ∙ below-count n k (omega arith) in
      same k below-n
      ∙ ap (λ (m : ℕ). le_at s (masks + 8 * m) 8) (sym count)
      ∙ over-listed s masks (has listed) (before k) k (subst (λ (m : Set). T (has m k)) (sym all) (has-below n k below-n))
      ∙ ap (λ (o : Option ℕ). listed_or o (before k)) (only-lists is k)

  -- ---- the keys with an operation

  pub touched-fits : {l : Listing} {operations count masks : ℕ} → l ≡ Touched operations count masks → ListingFits s n l → OperationsFit s n operations count
  unfolding ListingFits
  touched-fits is fits = (subst (ListingFits s n) is fits).1

  module _ (f : Key → Bool) {l : Listing} {operations count masks : ℕ} (is : l ≡ Touched operations count masks) (fits : ListingFits s n l) (bytes : Bytes s)
      (same : (k : Key) → f k ≡ touched (operations_at s operations count) k) where
    rises : Rise n 0 (operations_at s operations count)
    rises = operations-read s bytes count operations n 0 (true-T _ (touched-fits is fits).1)

    pub touched-room : (m : ℕ) → n ≤ m → masks + 8 * how_many m f ≤ length s
    unfolding ListingFits
    touched-room m few = let within = (subst (ListingFits s n) is fits).0 in let many = touched-count n m (operations_at s operations count) f few rises same in omega arith

    pub touched-below : (k : Key) → T (f k) → k < n
    touched-below k t = (touched-key n 0 (operations_at s operations count) k rises (subst T (same k) t)).0

    pub touched-lists : (k : Key) → listed_at s masks f k ≡ listing_of s n l k
    unfolding listing_of
    touched-lists k = rw is (ap (λ (g : Key → Bool). listed_at s masks g k) (fun_ext same))

  -- ---- either of the two, put over a row of masks

  module _ (l : Listing) (start : ℕ) (f : ℕ → Bool) (row fresh before : ℕ → ℕ) (lists : (k : ℕ) → listed_at s start f k ≡ listing_of s n l k)
      (put : (k : ℕ) → fresh k ≡ listed_or (listed_at s start f k) (row k)) where
    pub row_put : ((k : ℕ) → k < n → row k ≡ before k) → (k : ℕ) → k < n → fresh k ≡ listed_or (listing_of s n l k) (before k)
    row_put same k below =
        put k
        ∙ ap (λ (o : Option ℕ). listed_or o (row k)) (lists k)
        ∙ ap (λ (m : ℕ). listed_or (listing_of s n l k) m) (same k below)

    pub row_kept : ((k : ℕ) → T (f k) → k < n) → ((k : ℕ) → n ≤ k → row k ≡ before k) → (k : ℕ) → n ≤ k → fresh k ≡ before k
    row_kept few kept k beyond = put k ∙ sym (over-unlisted s start f (row k) k (λ t. let below = few k t in absurd (omega arith))) ∙ kept k beyond
