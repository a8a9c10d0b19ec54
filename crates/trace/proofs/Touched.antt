-- The keys of operations, gathered into a set one operation after the other. Assumes nothing.
use Prim.Native.Nat.{ℕ, suc, ◌+◌, ◌-◌, ◌*◌, ◌^◌, ◌≤◌, ◌<◌}
use mathlib.Core.Path.{◌≡◌, refl, sym, ap, ◌∙◌}
use mathlib.Core.Bool.{Bool, true, false, ◌||◌}
use mathlib.Core.List.{List}
use native.Mathlib.Omega.{arith}
use lib.Dec.{T, eqb, eqb→eq}
use lib.ListN.{length}
use mir.Facts.{and_yes}
use Rattle.search.specs.Search.{how_many}
use Rattle.search.proofs.Tests.{T_true, T_false, true-T, same_test, eq_test}
use Rattle.search.proofs.Counting.{how_many-same, how_many-passed}
use Rattle.sets.specs.Set.{Set, has, insert, size}
use Rattle.sets.proofs.Laws.{has-none}
use Rattle.sets.proofs.Algebra.{has-insert-is}
use Rattle.sets.proofs.Counting.{size-how_many}
use Rattle.endian.specs.Endian.{le_at}
use Rattle.store.specs.Limits.{max_keys}
use Rattle.store.specs.Store.{Key, Operation}
use Rattle.trace.specs.Listed.{touched, keys_in}
use Rattle.trace.specs.Format.{operations_at, rank_at, operation_fits, operations_fit}
use Rattle.trace.specs.Meaning.{OperationsFit}
use Rattle.trace.specs.WellFormed.{Rise}
use Rattle.trace.proofs.Tests.{operation_fits-is}
use Rattle.trace.proofs.Listed.{touched-key, keys_in-how_many}
use Rattle.trace.proofs.Counted.{after-one}

-- of the m operations from `start` on, the keys of the first i are in a set
pub record Gathered (s : List ℕ) (start m : ℕ) (listed : Set) (i : ℕ) : Type 0 where
  pub keys : ℕ
  pub few : keys ≤ max_keys
  pub low : ℕ
  pub fit : operations_fit s (start + 8 * i) keys low (m - i) ≡ true
  pub within : start + 8 * m ≤ length s
  pub all : (k : ℕ) → (has listed k || touched (operations_at s (start + 8 * i) (m - i)) k) ≡ touched (operations_at s start m) k

pub gathered_none : (s : List ℕ) (start m : ℕ) → ((keys : ℕ) × (keys ≤ max_keys) × OperationsFit s keys start m) → Gathered s start m 0 0
gathered_none s start m (keys, few, (within, fit)) =
    let here : start + 8 * 0 ≡ start = omega arith in
    let whole : m - 0 ≡ m = omega arith in record {
      keys = keys;
      few = few;
      low = 0;
      fit = rw (here, whole) fit;
      within = within;
      all = λ k. rw (here, whole) (ap (λ (b : Bool). b || touched (operations_at s start m) k) (T_false (has 0 k) (has-none k)));
    }

-- the first of two may be asked after the second
second-first : (a b c : Bool) → ((a || b) || c) ≡ (b || (a || c))
second-first true true c = refl
second-first true false c = refl
second-first false true c = refl
second-first false false c = refl

module _ {s : List ℕ} {start m i : ℕ} {listed : Set} (h : Gathered s start m listed i) (more : i < m) where
  abbrev at : ℕ
  at = start + 8 * i

  -- those behind the next one
  abbrev others : List Operation
  others = operations_at s (start + 8 * (i + 1)) (m - (i + 1))

  first-and-others : T (operation_fits s at h.keys h.low) × T (operations_fit s (start + 8 * (i + 1)) h.keys (suc (rank_at s at)) (m - (i + 1)))
  unfolding operations_fit
  first-and-others =
      let left : m - i ≡ suc (m - (i + 1)) = omega arith in
      let next : at + 8 ≡ start + 8 * (i + 1) = omega arith in
      and_yes _ _ (rw (left, next) at (true-T _ h.fit))

  -- the key of the next operation is one of the store
  pub gathered-key : le_at s (start + 8 * i + 1) 1 < max_keys
  gathered-key = let (access, key, zeros, rises) = (operation_fits-is s at h.keys h.low).0 first-and-others.0 in let few = h.few in omega arith

  next-touched : (k : ℕ) → touched (operations_at s at (m - i)) k ≡ (eqb (le_at s (at + 1) 1) k || touched others k)
  unfolding touched
  next-touched k = ap (λ (os : List Operation). touched os k) (after-one s start m i more)

  pub gathered-more : {key : ℕ} {after : Set} → key ≡ le_at s (start + 8 * i + 1) 1 → after ≡ insert key listed → Gathered s start m after (i + 1)
  gathered-more {key} is_key is-after = rw (is-after, is_key) (record {
    keys = h.keys;
    few = h.few;
    low = suc (rank_at s at);
    fit = T_true _ first-and-others.1;
    within = h.within;
    all = λ k.
        ap (λ (b : Bool). b || touched others k) (has-insert-is (le_at s (at + 1) 1) listed k ∙ ap (λ (b : Bool). b || has listed k) (either_way k))
        ∙ second-first (eqb (le_at s (at + 1) 1) k) (has listed k) (touched others k)
        ∙ ap (λ (b : Bool). has listed k || b) (sym (next-touched k))
        ∙ h.all k;
  })
    where
      either_way : (k : ℕ) → eqb k (le_at s (at + 1) 1) ≡ eqb (le_at s (at + 1) 1) k
      either_way k = same_test _ _ (λ t. eq_test _ k (sym (eqb→eq k _ t))) (λ t. eq_test k _ (sym (eqb→eq _ k t)))

pub gathered-all : {s : List ℕ} {start m i : ℕ} {listed : Set} → Gathered s start m listed i → m ≤ i → (k : ℕ) → has listed k ≡ touched (operations_at s start m) k
unfolding operations_at touched
gathered-all {s} {start} {m} {i} {listed} h all k =
    let none : m - i ≡ 0 = omega arith in
    sym (or-none (has listed k)) ∙ ap (λ (n : ℕ). has listed k || touched (operations_at s (start + 8 * i) n) k) (sym none) ∙ h.all k
  where
    or-none : (b : Bool) → (b || false) ≡ b
    or-none true = refl
    or-none false = refl

-- as many keys have one of operations that rise as differ "from the one before"
pub touched-count : (keys n : ℕ) (os : List Operation) (f : Key → Bool) → keys ≤ n → Rise keys 0 os → ((k : Key) → f k ≡ touched os k) → how_many n f ≡ keys_in os
touched-count keys n os f few rise same =
    how_many-same n f (touched os) (λ k l. same k)
    ∙ how_many-passed keys n (touched os) few (λ k from to t. let below = (touched-key keys 0 os k rise t).0 in omega arith)
    ∙ sym (keys_in-how_many keys os rise)

pub touched-size : (keys : ℕ) (os : List Operation) (listed : Set) → keys ≤ max_keys → listed < 2 ^ 64 → Rise keys 0 os → ((k : Key) → has listed k ≡ touched os k) → size listed ≡ keys_in os
touched-size keys os listed few word rise same = size-how_many 64 listed word ∙ touched-count keys 64 os (has listed) (omega arith) rise same
