-- What the tests of the format that are made of several tests say of the numbers. Assumes nothing.
use Prim.Native.Nat.{ℕ, zero, suc, ◌+◌, ◌/◌, ◌%◌, ◌≤◌, ◌<◌}
use mathlib.Core.Path.{◌≡◌, refl}
use mathlib.Core.Logic.{◌≢◌, ◌↔◌}
use mathlib.Core.Bool.{Bool, true, false, ◌&&◌}
use mathlib.Core.List.{List}
use native.Mathlib.Omega.{arith}
use native.Mathlib.Numerals.{add-one}
use lib.Dec.{T, eqb, ltb, leb, eqb→eq, ltb→lt, leb→le, lt→ltb, le→leb}
use mir.Facts.{yes_eqb}
use borrow.Author.Tests.{le-leb, lt-ltb}
use Rattle.search.specs.Choose.{choose}
use Rattle.endian.specs.Endian.{Bytes, le_at}
use Rattle.endian.proofs.Laws.{le_at-add, le_at-lt}
use Rattle.store.specs.Limits.{max_keys, max_clients}
use Rattle.trace.specs.Format.{Header, rank_at, operation_fits, operations_fit, within_limits}

four-tests : (a b c d : Bool) → T ((a && b) && (c && d)) ↔ (T a × T b × T c × T d)
four-tests false b c d = (λ t. absurd t, λ h. absurd h.0)
four-tests true false c d = (λ t. absurd t, λ h. absurd h.1)
four-tests true true false d = (λ t. absurd t, λ h. absurd h.2)
four-tests true true true d = (λ t. (tt, tt, tt, t), λ h. h.3)

-- "0 read or 1 write, key u8, zero u16", and the order
pub operation_fits-is : (s : List ℕ) (at keys low : ℕ)
    → T (operation_fits s at keys low) ↔ ((le_at s at 1 ≤ 1) × (le_at s (at + 1) 1 < keys) × (le_at s (at + 2) 2 ≡ 0) × (low ≤ rank_at s at))
unfolding operation_fits
operation_fits-is s at keys low =
    let tests = four-tests (leb (le_at s at 1) 1) (ltb (le_at s (at + 1) 1) keys) (eqb (le_at s (at + 2) 2) 0) (leb low (rank_at s at)) in (
      λ t. let (a, b, c, d) = tests.0 t in (leb→le _ _ a, ltb→lt _ _ b, eqb→eq _ _ c, leb→le _ _ d),
      λ h. tests.1 (le→leb _ _ h.0, lt→ltb _ _ h.1, yes_eqb h.2, le→leb _ _ h.3),
    )

-- the four bytes before the value, read as one number
pub operation-parts : (s : List ℕ) → Bytes s → (at : ℕ) {w : ℕ} → w ≡ le_at s at 4
    → (w % 256 ≡ le_at s at 1) × (w / 256 % 256 ≡ le_at s (at + 1) 1) × (w / 65536 ≡ le_at s (at + 2) 2)
operation-parts s bytes at e =
    let halves = le_at-add s 2 2 at in
    let low_half_lem = le_at-add s 1 1 at in
    let access = le_at-lt s bytes 1 at in
    let key = le_at-lt s bytes 1 (at + 1) in
    (omega arith, omega arith, omega arith)

-- the least rank that is left after an operation, or 0 where it does not fit
pub low-rises : (fits : Bool) (rank : ℕ) {low : ℕ} → low ≡ choose fits (rank + 1) 0 → low ≢ 0 → (fits ≡ true) × (low ≡ rank + 1)
unfolding choose
low-rises true rank e some = (refl, e)
low-rises false rank e some = absurd (some e)

pub low-stops : (fits : Bool) (rank : ℕ) {low : ℕ} → low ≡ choose fits (rank + 1) 0 → low ≡ 0 → fits ≡ false
unfolding choose
low-stops true rank e none = absurd (omega arith)
low-stops false rank e none = refl

-- operations in turn: the first fits, and the others are tested from above its rank
pub operations_fit-next : (s : List ℕ) (at keys low left : ℕ) {next others above : ℕ} → next ≡ at + 8 → left ≡ suc others → operation_fits s at keys low ≡ true → above ≡ rank_at s at + 1
    → operations_fit s at keys low left ≡ operations_fit s next keys above others
unfolding operations_fit
operations_fit-next s at keys low left is_next more fits a = rw (more, is_next, fits, a, add-one (rank_at s at))

-- the first does not
pub operations_fit-stop : (s : List ℕ) (at keys low left : ℕ) → 0 < left → operation_fits s at keys low ≡ false → operations_fit s at keys low left ≡ false
unfolding operations_fit
operations_fit-stop s at keys low zero some e = absurd (omega arith)
operations_fit-stop s at keys low (suc n) some e = rw e

-- there are none
pub operations_fit-none : (s : List ℕ) (at keys low left : ℕ) → left ≡ 0 → operations_fit s at keys low left ≡ true
unfolding operations_fit
operations_fit-none s at keys low left e = rw e

-- "Keys 1 to" 32, "clients 1 to 16"
pub within_limits-is : (h : Header)
    → T (within_limits h) ↔ ((1 ≤ h.keys) × (h.keys ≤ max_keys) × (1 ≤ h.clients) × (h.clients ≤ max_clients))
within_limits-is h =
    let tests = four-tests (ltb 0 h.keys) (leb h.keys max_keys) (ltb 0 h.clients) (leb h.clients max_clients) in (
      λ t. let (a, b, c, d) = tests.0 t in (ltb→lt _ _ a, leb→le _ _ b, ltb→lt _ _ c, leb→le _ _ d),
      λ l. tests.1 (lt→ltb _ _ l.0, le→leb _ _ l.1, lt→ltb _ _ l.2, le→leb _ _ l.3),
    )

-- once the other three hold, it is the test of the clients
pub within_limits-last : (h : Header) → 1 ≤ h.keys → h.keys ≤ max_keys → 1 ≤ h.clients → leb h.clients max_clients ≡ within_limits h
within_limits-last h some_key few-keys some-client = rw (lt-ltb _ _ some_key, le-leb _ _ few-keys, lt-ltb _ _ some-client)
