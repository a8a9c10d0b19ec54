-- What is known of operations once they are sorted, and that what is no commit has none. Assumes nothing.
use Prim.Native.Nat.{ℕ, ◌+◌, ◌%◌, ◌^◌, ◌≤◌, ◌<◌}
use mathlib.Core.Path.{◌≡◌, sym, ◌∙◌, subst}
use mathlib.Core.Bool.{Bool, true, false, ◌&&◌, ◌||◌}
use mathlib.Core.List.{List}
use lib.Dec.{T, eqb}
use borrow.Author.Rules.{rules}
use Rattle.search.specs.Choose.{need}
use Rattle.search.proofs.Choose.{need-ind}
use Rattle.search.proofs.Tests.{true-T, false-T}
use Rattle.sets.specs.Set.{Set, has, size}
use Rattle.endian.specs.Endian.{Bytes}
use Rattle.store.specs.Limits.{max_keys}
use Rattle.store.specs.Store.{Key}
use Rattle.trace.specs.Entry.{shifting, committing}
use Rattle.trace.specs.Listed.{touched, keys_in}
use Rattle.trace.specs.Format as Format
use Rattle.trace.specs.Format.{Header, operations_at, operations_fit, misshapen, whole, shift_at, short_shift_of, short_shift_at}
use Rattle.trace.specs.Meaning.{entry_of}
use Rattle.trace.specs.Sorted.{SortedAs, SortSays, touched_by, RecordSorted}
use Rattle.trace.specs.declared.records.Record.TheVariants.{Shift, Commit}
use Rattle.trace.specs.declared.records.Record.{Record}
use Rattle.std.specs.Prelude.{Option, Some, None, IsSome}
use Rattle.trace.proofs.Decoded.{operations-read}
use Rattle.trace.proofs.Doubled.{doubled-size, firsts-doubled}
use Rattle.trace.proofs.Ranks.{touched-sorted}
use Rattle.trace.proofs.Touched.{touched-count}

-- ---- what an answer says

module _ (s : List ℕ) (start keys m : ℕ) (values : List ℕ) {x : Option ℕ} where
  pub says-fit : {ranks : ℕ} → x ≡ Some ranks → SortSays s start keys m values x → (operations_fit s start keys 0 m ≡ true) × SortedAs s start m ranks values
  unfolding SortSays
  says-fit is says = subst (SortSays s start keys m values) is says

  pub says-touched : {ranks : ℕ} → x ≡ Some ranks → SortSays s start keys m values x → (k : Key) → touched (operations_at s start m) k ≡ touched_by ranks k
  says-touched {ranks} is says = touched-sorted s start m ranks values (says-fit is says).1

  pub says-unfit : x ≡ None → SortSays s start keys m values x → operations_fit s start keys 0 m ≡ false
  unfolding SortSays
  says-unfit is says = subst (SortSays s start keys m values) is says

-- operations that fit are sorted
pub says-some : (s : List ℕ) (start keys m : ℕ) (values : List ℕ) (x : Option ℕ) → operations_fit s start keys 0 m ≡ true → SortSays s start keys m values x → IsSome x
unfolding SortSays
says-some s start keys m values (Some ranks) fit says = search rules
says-some s start keys m values None fit says = absurd (false-T _ says (true-T _ fit))

-- the first ranks of the keys with an operation are as many as these keys
pub firsts-many : (s : List ℕ) (start keys m : ℕ) (values : List ℕ) (ranks w : Set) → Bytes s → keys ≤ max_keys → w < 2 ^ 64
    → (operations_fit s start keys 0 m ≡ true) × SortedAs s start m ranks values → ((i : ℕ) → has w i ≡ (eqb (i % 2) 0 && (has ranks i || has ranks (i + 1))))
    → size w ≡ keys_in (operations_at s start m)
firsts-many s start keys m values ranks w bytes few word (fit, sorted) is =
    doubled-size w (touched_by ranks) word (firsts-doubled ranks w is)
    ∙ touched-count keys max_keys (operations_at s start m) (touched_by ranks) few (operations-read s bytes m start keys 0 (true-T _ fit)) (λ k. sym (touched-sorted s start m ranks values sorted k))

-- ---- what is no commit

no_commit : Format.Reading → Bool
no_commit (misshapen code) = true
no_commit (whole (shifting d l) next) = true
no_commit (whole (committing d n os l) next) = false

need-no_commit : (t : Bool) (code : ℕ) (rest : Format.Reading) → T (no_commit rest) → T (no_commit (need t (misshapen code) rest))
unfolding no_commit
need-no_commit t code rest h = need-ind (λ (x : Format.Reading). T (no_commit x)) t (misshapen code) rest tt (λ met. h)

shift-no_commit : (s : List ℕ) (h : Header) (at : ℕ) → T (no_commit (shift_at s h at))
unfolding no_commit shift_at
shift-no_commit s h at = need-no_commit _ 3 _ (need-no_commit _ 3 _ (need-no_commit _ 6 _ (need-no_commit _ 7 _ tt)))

short-shift-no_commit : (s : List ℕ) (h : Header) (at : ℕ) → T (no_commit (short_shift_at s h at))
unfolding no_commit short_shift_at short_shift_of
short-shift-no_commit s h at = need-no_commit _ 3 _ (need-no_commit _ 3 _ (need-no_commit _ 3 _ (need-no_commit _ 6 _ (need-no_commit _ 7 _ (need-no_commit _ 7 _ tt)))))

module _ (s : List ℕ) (keys : ℕ) (ranks : Set) (values : List ℕ) where
  unsorted : (r : Record) (next : ℕ) → T (no_commit (whole (entry_of s keys r) next)) → RecordSorted s ranks values r
  unfolding no_commit entry_of RecordSorted
  unsorted (Shift client l) next t = tt
  unsorted (Commit client count session operations l) next t = absurd t

  pub shift-unsorted : (r : Record) (next : ℕ) (h : Header) (at : ℕ) → whole (entry_of s keys r) next ≡ shift_at s h at → RecordSorted s ranks values r
  shift-unsorted r next h at is = unsorted r next (subst (λ (x : Format.Reading). T (no_commit x)) (sym is) (shift-no_commit s h at))

  pub short-shift-unsorted : (r : Record) (next : ℕ) (h : Header) (at : ℕ) → whole (entry_of s keys r) next ≡ short_shift_at s h at → RecordSorted s ranks values r
  short-shift-unsorted r next h at is = unsorted r next (subst (λ (x : Format.Reading). T (no_commit x)) (sym is) (short-shift-no_commit s h at))
