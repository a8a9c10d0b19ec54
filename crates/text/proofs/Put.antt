-- Laws of bytes put behind one another. Assumes nothing.
use Prim.Native.Nat.{ℕ, ◌+◌, ◌/◌, ◌%◌, ◌≤◌, ◌<◌}
use mathlib.Core.Path.{◌≡◌, refl, sym, ap, ◌∙◌, subst}
use mathlib.Core.List.{List, [], ◌∷◌, ◌++◌}
use native.Mathlib.Omega.{arith}
use native.Mathlib.Nat.{zero-add}
use native.Mathlib.Numerals.{add-one}
use lib.ListN.{length, get_or, set, length-append}
use lib.Seq.{paste, paste-suc, sets-eq}
use Rattle.endian.specs.Endian.{put_at}
use Rattle.endian.proofs.Put.{length-put, put_next}
use Rattle.text.specs.Decimal.{digit, decimal, decimal-one, decimal-more}
use Rattle.text.specs.Put.{Put}

-- bytes, and others behind them
pub put_both : {before middle after : List ℕ} {at mid end : ℕ} {a b : List ℕ}
    → Put before at a middle mid → Put middle mid b after end → Put before at (a ++ b) after end
put_both {before} {at = at} {mid = mid} {a = a} {b = b} p q =
    record {
      stands = put_next before at (length a) mid a b p.stands refl (sym p.behind) p.within q.stands;
      behind = simp length-append (omega (arith, p.behind, q.behind));
      within = omega (arith, p.within, q.within, ap length p.stands, length-put before at a (omega arith));
    }

-- what is put at the start of a buffer
pub put-start : {before after bytes : List ℕ} {end : ℕ} → Put before 0 bytes after end → (end ≡ length bytes) × (after ≡ put_at before 0 bytes)
put-start {bytes = bytes} p = (p.behind ∙ zero-add (length bytes), p.stands)

-- one byte
pub put_one : (d : List ℕ) (at b : ℕ) → at < length d → Put d at (b ∷ []) (set d at b) (at + 1)
put_one d at b l = record { stands = sets-eq (b ∷ []) d at (omega arith); behind = refl; within = omega arith }

-- a turn of the loop that puts bytes one by one
pub put-next-byte : (d bytes : List ℕ) (at i : ℕ) {present : List ℕ} → present ≡ paste d at bytes i → at + i < length d → i < length bytes
    → set present (at + i) (get_or bytes i 0) ≡ paste d at bytes (i + 1)
put-next-byte d bytes at i e l m = rw (e, add-one i) (paste-suc d at bytes i 0 l m)

-- ---- the digits of a number

pub put-one-digit : (d : List ℕ) (at n : ℕ) → n < 10 → at < length d → Put d at (decimal n) (set d at (digit n)) (at + 1)
put-one-digit d at n l room = subst (λ b. Put d at b (set d at (digit n)) (at + 1)) (sym (decimal-one n l)) (put_one d at (digit n) room)

pub put-last-digit : (d : List ℕ) (at n last : ℕ) {middle : List ℕ} → 10 ≤ n → Put d at (decimal (n / 10)) middle last → last < length middle
    → Put d at (decimal n) (set middle last (digit (n % 10))) (last + 1)
put-last-digit d at n last {middle} l p room =
    subst (λ b. Put d at b (set middle last (digit (n % 10))) (last + 1)) (sym (decimal-more n l)) (put_both p (put_one middle last (digit (n % 10)) room))
